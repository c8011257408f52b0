use Rattle.std.proofs.Common.{arith, add-one}
use Rattle.vx_types.proofs.Members.{size_at}
use Rattle.vx_types.proofs.FieldNames.{field_distinct, distinct_more}
use Rattle.vx_types.proofs.field_names.+distinct.Goals as goal

pub have_distinct_names-has_distinct_names-requires : goal.have_distinct_names-has_distinct_names-requires
have_distinct_names-has_distinct_names-requires t c = omega (arith, size_at c.args.fields.now c.loop-field.field-index c.field-item.result c.loop-field-test.true c.field-item.is)

pub have_distinct_names-returns-then-not-branch : goal.have_distinct_names-returns-then-not-branch
have_distinct_names-returns-then-not-branch t c = (
  λ h. absurd cc,
  λ h. let yes = c.in_ok-has_distinct_names.ensures.1 (field_distinct c.args.fields.now c.loop-field.field-index c.field-item.result c.loop-field-test.true c.field-item.is h) in absurd cc,
)

pub have_distinct_names-loop-field-preserved : goal.have_distinct_names-loop-field-preserved
have_distinct_names-loop-field-preserved t c =
    rw add-one (distinct_more c.args.fields.now c.loop-field.field-index c.field-item.result c.loop-field-test.true c.field-item.is c.loop-field.invariant (c.in_ok-has_distinct_names.ensures.0 c.if-not-branch.false))
