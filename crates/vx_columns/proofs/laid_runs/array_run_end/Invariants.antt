use Rattle.vx_columns.proofs.RunEnds.{AlikeTo}
use Rattle.vx_columns.proofs.laid_runs.array_run_end.Given as goal

abbrev pub invariant-loop-end : goal.invariant-loop-end
invariant-loop-end l = AlikeTo l.array.values l.row l.end
