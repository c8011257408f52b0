use Rattle.vx_steps.specs.OpenSegments.{AreCountedTo}
use Rattle.vx_steps.proofs.open_segments.counted.Given as goal

abbrev pub invariant-loop-plan : goal.invariant-loop-plan
invariant-loop-plan l = AreCountedTo l.table l.leaves.all l.plan l.left
