use Rattle.vx_columns.proofs.SpreadRuns.{SpreadSoFar}
use Rattle.vx_columns.proofs.run_rows.spread_mask.Given as goal

abbrev pub invariant-loop-run : goal.invariant-loop-run
invariant-loop-run l = SpreadSoFar l.bits l.ends l.mask l.before l.run
