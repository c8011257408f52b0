use Rattle.vx_segments.proofs.TextEnds.{EndsSoFar}
use Rattle.vx_segments.proofs.text_ends.ends_of.Given as goal

abbrev pub invariant-loop-row : goal.invariant-loop-row
invariant-loop-row l = EndsSoFar l.rows l._row l.room l.lengths l.ends.items l.end l.rest
