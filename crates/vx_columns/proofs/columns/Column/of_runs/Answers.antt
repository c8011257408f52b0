use Rattle.std.proofs.Common.{◌∙◌, sym, ap}
use Rattle.vx_types.specs.Columns.{ColumnData}
use Rattle.vx_types.specs.Views.{data_type}
use Rattle.vx_columns.proofs.RunRows.{column_of_runs}
use Rattle.vx_columns.proofs.columns.Column.of_runs.Goals as goal

pub of_rows-requires : goal.of_rows-requires
of_rows-requires c =
    column_of_runs (data_type c.args.dtype) c.args.values.values c.args.ends.items c.of-runs.result c.requires.column.fit
    (ap (λ (a : ColumnData). a.dtype) c.of-runs.ensures ∙ sym c.requires.column.shape)
    (ap (λ (a : ColumnData). a.values) c.of-runs.ensures)
