use Rattle.vx_segments.proofs.ZeroSlots.{ZerosSoFar}
use Rattle.vx_segments.proofs.number_rows.hold_zero.Given as goal

abbrev pub invariant-loop-row : goal.invariant-loop-row
invariant-loop-row l = ZerosSoFar l.fn.kind l.rows l.row l.valid l.slots l.rest
