use Rattle.vx_steps.specs.Hindrances.{IsRun}
use Rattle.vx_steps.proofs.hindrances.run_end.Given as goal

abbrev pub invariant-loop-end : goal.invariant-loop-end
invariant-loop-end l = IsRun l.mask l.row l.end
