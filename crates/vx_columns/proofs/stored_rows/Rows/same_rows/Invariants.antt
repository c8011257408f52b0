use Rattle.std.proofs.Common.{◌≡◌, take}
use Rattle.vx_columns.specs.StoredRows.{row_data}
use Rattle.vx_columns.proofs.stored_rows.Rows.same_rows.Given as goal

abbrev pub invariant-loop-row : goal.invariant-loop-row
invariant-loop-row l = take l.row (row_data l.self).values ≡ take l.row (row_data l.other).values
