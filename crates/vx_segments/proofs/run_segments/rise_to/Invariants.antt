use Rattle.vx_segments.proofs.CodedSegments.{RisenTo}
use Rattle.vx_segments.proofs.run_segments.rise_to.Given as goal

abbrev pub invariant-loop-end : goal.invariant-loop-end
invariant-loop-end l = RisenTo l.ends l.before l.end-index
