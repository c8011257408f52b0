use Rattle.std.proofs.Common.{arith}
use Rattle.vx_base.specs.Views.{fields_in, field_data}
use Rattle.vx_expr.proofs.IndexedNames.{one_before}
use Rattle.vx_expr.proofs.indexed_roots.places_of.Goals as goal

pub loop-place-preserved : goal.loop-place-preserved
loop-place-preserved c = record {
  inside = omega (arith, c.loop-place.invariant.inside);
  there = one_before c.loop-place.places c.insert.new.self (fields_in c.args.fields.now) _ c.loop-place.place (field_data c.in-Some.field.now) c.as_str.result (omega arith) c.in-Some.ensures.found c.as_str.ensures.value c.in_ok-insert-in-Some.ensures.updates.0 c.loop-place.invariant.there;
}
