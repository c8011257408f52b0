use Rattle.std.proofs.Common.{◌∙◌, ap, refl, List}
use Rattle.std.specs.List.{slice_range}
use Rattle.vx_masks.specs.Masks.{chosen}
use Rattle.vx_types.specs.Columns.{ColumnData}
use Rattle.vx_types.specs.Data.{Datum}
use Rattle.vx_types.specs.Views.{data_type}
use Rattle.vx_columns.specs.StoredRows.{row_data}
use Rattle.vx_arrays.specs.ArrayRows.{sliced}
use Rattle.vx_arrays.proofs.PackedRows.{column_chosen, column_range}
use Rattle.vx_columns.proofs.columns.Column.filter_range.Goals as goal

pub of_rows-requires : goal.of_rows-requires
of_rows-requires c =
    let range = sliced c.args.rows.start c.args.rows.end (row_data c.rows.result.now) in
    column_chosen (data_type c.in_ok-dtype.dtype) c.args.self.now.dtype c.args.mask.now range (row_data c.in_ok-made.made) (c.in_ok-dtype.ensures ∙ c.dtype.ensures) c.in_ok-made.ensures
    (column_range c.args.self.now.dtype c.args.self.now.dtype (row_data c.rows.result.now) range c.args.rows.start c.args.rows.end refl refl c.rows.ensures.column)

pub returns-clause-values : goal.returns-clause-values
returns-clause-values c =
    c.of_rows.ensures.values
    ∙ ap (λ (a : ColumnData). a.values) c.in_ok-made.ensures
    ∙ ap (λ (vs : List Datum). chosen c.args.mask.now (slice_range vs c.args.rows.start c.args.rows.end)) c.rows.ensures.values
