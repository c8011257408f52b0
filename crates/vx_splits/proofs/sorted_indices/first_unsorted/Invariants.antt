use Rattle.vx_splits.proofs.Runs.{AscendBelow}
use Rattle.vx_splits.proofs.sorted_indices.first_unsorted.Given as goal

abbrev pub invariant-loop-place : goal.invariant-loop-place
invariant-loop-place l = AscendBelow l.values l.place
