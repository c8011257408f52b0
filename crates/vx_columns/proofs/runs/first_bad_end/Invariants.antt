use Rattle.vx_columns.proofs.RunRows.{GoodSoFar}
use Rattle.vx_columns.proofs.runs.first_bad_end.Given as goal

abbrev pub invariant-loop-place : goal.invariant-loop-place
invariant-loop-place l = GoodSoFar l.count l.ends l.place l.before
