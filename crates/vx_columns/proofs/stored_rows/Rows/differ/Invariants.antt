use Rattle.vx_columns.specs.StoredRows.{row_data}
use Rattle.vx_columns.proofs.LaidRuns.{DifferSoFar}
use Rattle.vx_columns.proofs.stored_rows.Rows.differ.Given as goal

abbrev pub invariant-loop-row : goal.invariant-loop-row
invariant-loop-row l = DifferSoFar (row_data l.self).values l.row
