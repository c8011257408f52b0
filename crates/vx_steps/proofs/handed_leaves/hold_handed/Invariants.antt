use Rattle.vx_steps.proofs.HoldingLeaves.{IsLookedThrough}
use Rattle.vx_steps.proofs.handed_leaves.hold_handed.Given as goal

abbrev pub invariant-loop-place : goal.invariant-loop-place
invariant-loop-place l = IsLookedThrough l.table l.job l.fn.progress l.progress
