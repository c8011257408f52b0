use Rattle.vx_columns.proofs.KeptRuns.{EndsKept}
use Rattle.vx_columns.proofs.run_rows.ends_kept.Given as goal

abbrev pub invariant-loop-count : goal.invariant-loop-count
invariant-loop-count l = EndsKept l.counts l.ends.items l.last l.count-index
