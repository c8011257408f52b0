use Rattle.vx_segments.proofs.TextRows.{LieSoFar}
use Rattle.vx_segments.proofs.text_rows.place_behind.Given as goal

abbrev pub invariant-loop-done : goal.invariant-loop-done
invariant-loop-done l = LieSoFar l.buffer l.valid l.first l.fn.count l.done l.fn.from l.fn.lengths l.place l.rest
