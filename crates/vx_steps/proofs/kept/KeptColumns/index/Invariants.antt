use Rattle.std.proofs.Common.{◌≡◌, map}
use Rattle.vx_steps.specs.Kept.{kept_data, AreIndexed}
use Rattle.vx_steps.proofs.kept.KeptColumns.index.Given as goal

abbrev pub invariant-loop-place : goal.invariant-loop-place
invariant-loop-place l = record {
  indexed : AreIndexed l.self-inside.places l.self-inside.indexed (map kept_data l.self-inside.columns.items);
  place : l.self-inside.indexed ≡ l.place;
  columns : l.self-inside.columns ≡ l.initial.self-inside.columns;
}
