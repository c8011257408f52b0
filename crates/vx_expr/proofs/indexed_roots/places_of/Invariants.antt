use Rattle.std.proofs.Common.{◌≤◌, length}
use Rattle.vx_base.specs.Views.{fields_in}
use Rattle.vx_expr.proofs.IndexedNames.{HasFrom}
use Rattle.vx_expr.proofs.indexed_roots.places_of.Given as goal

abbrev pub invariant-loop-place : goal.invariant-loop-place
invariant-loop-place l = record {
  inside : l.place ≤ length (fields_in l.fields);
  there : HasFrom l.places (fields_in l.fields) l.place;
}

abbrev pub decreases-loop-place : goal.decreases-loop-place
decreases-loop-place l = l.place
