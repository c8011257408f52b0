use Rattle.vx_splits.proofs.FirstChunks.{PlaceAhead}
use Rattle.vx_splits.proofs.first_rows.place_of.Given as goal

abbrev pub invariant-loop-row : goal.invariant-loop-row
invariant-loop-row l = PlaceAhead l.mask l.rank l.row l.left
