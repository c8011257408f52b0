use Rattle.std.proofs.Common.{◌-◌}
use Rattle.vx_columns.specs.StoredRows.{row_data}
use Rattle.vx_columns.proofs.BuiltRuns.{RunsTo}
use Rattle.vx_columns.proofs.stored_rows.Rows.run_bounds.Given as goal

abbrev pub invariant-loop-start : goal.invariant-loop-start
invariant-loop-start l = RunsTo (row_data l.self).values l.starts.items l.ends.items l.start

abbrev pub decreases-loop-start : goal.decreases-loop-start
decreases-loop-start l = l.rows - l.start
