use Rattle.std.proofs.Common.{subst}
use Rattle.vx_types.specs.Columns.{ColumnData}
use Rattle.vx_columns.specs.StoredRows.{row_data}
use Rattle.vx_arrays.specs.PackedColumns.{IsColumn}
use Rattle.vx_columns.proofs.columns.Column.rows.Goals as goal

pub returns-clause-column : goal.returns-clause-column
returns-clause-column c = subst (λ (a : ColumnData). IsColumn a.dtype (row_data c.self.inside.rows)) c.self.view_is c.self.invariant
