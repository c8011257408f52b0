use Rattle.std.proofs.Common.{◌∙◌, ap, List}
use Rattle.vx_masks.specs.Masks.{chosen}
use Rattle.vx_types.specs.Columns.{ColumnData}
use Rattle.vx_types.specs.Data.{Datum}
use Rattle.vx_types.specs.Views.{data_type}
use Rattle.vx_columns.specs.StoredRows.{row_data}
use Rattle.vx_arrays.proofs.PackedRows.{column_chosen}
use Rattle.vx_columns.proofs.columns.Column.filter.Goals as goal

pub of_rows-requires : goal.of_rows-requires
of_rows-requires c = column_chosen (data_type c.in_ok-dtype.dtype) c.args.self.now.dtype c.args.mask.now (row_data c.rows.result.now) (row_data c.in_ok-made.made) (c.in_ok-dtype.ensures ∙ c.dtype.ensures) c.in_ok-made.ensures c.rows.ensures.column

pub returns-clause-values : goal.returns-clause-values
returns-clause-values c = c.of_rows.ensures.values ∙ ap (λ (a : ColumnData). a.values) c.in_ok-made.ensures ∙ ap (λ (vs : List Datum). chosen c.args.mask.now vs) c.rows.ensures.values
