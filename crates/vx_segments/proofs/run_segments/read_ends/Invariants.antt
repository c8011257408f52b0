use Rattle.vx_segments.proofs.CodedSegments.{EndsRead}
use Rattle.vx_segments.proofs.run_segments.read_ends.Given as goal

abbrev pub invariant-loop-run : goal.invariant-loop-run
invariant-loop-run l = EndsRead l.count l._run l.bytes l.ends.items l.rest
