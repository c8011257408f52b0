use Rattle.std.proofs.Common.{◌∙◌, ap}
use Rattle.std.specs.List.{slice_range}
use Rattle.vx_types.specs.Columns.{ColumnData}
use Rattle.vx_types.specs.Data.{Datum}
use Rattle.std.proofs.Common.{List}
use Rattle.vx_types.specs.Views.{data_type}
use Rattle.vx_columns.specs.StoredRows.{row_data}
use Rattle.vx_arrays.proofs.PackedRows.{column_range}
use Rattle.vx_columns.proofs.columns.Column.slice.Goals as goal

pub of_rows-requires : goal.of_rows-requires
of_rows-requires c = column_range (data_type c.in_ok-dtype.dtype) c.args.self.now.dtype (row_data c.rows.result.now) (row_data c.in_ok-made.made) c.args.rows.start c.args.rows.end (c.in_ok-dtype.ensures ∙ c.dtype.ensures) c.in_ok-made.ensures c.rows.ensures.column

pub returns-clause-values : goal.returns-clause-values
returns-clause-values c = c.of_rows.ensures.values ∙ ap (λ (a : ColumnData). a.values) c.in_ok-made.ensures ∙ ap (λ (vs : List Datum). slice_range vs c.args.rows.start c.args.rows.end) c.rows.ensures.values
