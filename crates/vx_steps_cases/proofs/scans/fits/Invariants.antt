use Rattle.std.proofs.Common.{◌+◌, ◌<◌, ◌^◌, ℕ}
use Rattle.vx_plan.specs.Rules.{node_at}
use Rattle.vx_steps_cases.proofs.scans.fits.Given as goal

abbrev pub invariant-loop-plan : goal.invariant-loop-plan
invariant-loop-plan l = (n : ℕ) → n < l.plan → (node_at l.table n).rows + l.offset < 2 ^ 64
