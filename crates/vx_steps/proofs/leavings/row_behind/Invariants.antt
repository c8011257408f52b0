use Rattle.std.proofs.Common.{◌≡◌, drop, max}
use Rattle.vx_steps.specs.Leavings.{behind_all}
use Rattle.vx_steps.proofs.leavings.row_behind.Given as goal

abbrev pub invariant-loop-place : goal.invariant-loop-place
invariant-loop-place l = max l.row (behind_all (drop l.place l.splits)) ≡ behind_all l.splits
