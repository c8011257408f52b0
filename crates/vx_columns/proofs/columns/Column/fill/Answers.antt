use Rattle.std.proofs.Common.{◌≡◌, ◌∙◌, sym, ap}
use Rattle.vx_types.specs.Columns.{ColumnData}
use Rattle.vx_types.specs.Views.{data_type}
use Rattle.vx_columns.specs.Runs.{spread}
use Rattle.vx_columns.specs.StoredRows.{row_data}
use Rattle.vx_columns.proofs.RunRows.{column_of_runs}
use Rattle.vx_columns.proofs.columns.Column.fill.Goals as goal

pub of_rows-requires : goal.of_rows-requires
of_rows-requires c =
    let array : c.in_ok-array.array ≡ row_data c.self.inside.rows = c.in_ok-array.ensures in
    column_of_runs (data_type c.self.inside.dtype) (row_data c.self.inside.rows).values c.args.ends.items c.of-runs.result c.self.invariant.fit
    (ap (λ (a : ColumnData). a.dtype) c.of-runs.ensures ∙ ap (λ (a : ColumnData). a.dtype) array ∙ sym c.self.invariant.shape)
    (ap (λ (a : ColumnData). a.values) c.of-runs.ensures ∙ ap (λ (a : ColumnData). spread 0 a.values c.args.ends.items) array)

pub returns-clause-values : goal.returns-clause-values
returns-clause-values c =
    let array : c.in_ok-array.array ≡ row_data c.self.inside.rows = c.in_ok-array.ensures in
    c.of_rows.ensures.values ∙ ap (λ (a : ColumnData). a.values) c.of-runs.ensures ∙ ap (λ (a : ColumnData). spread 0 a.values c.args.ends.items) array ∙ ap (λ (a : ColumnData). spread 0 a.values c.args.ends.items) c.self.view_is
