use Rattle.std.proofs.Common.{◌∙◌}
use Rattle.vx_types.specs.Views.{data_type}
use Rattle.vx_columns.specs.StoredRows.{row_data}
use Rattle.vx_columns.proofs.BuiltRuns.{found_runs}
use Rattle.vx_columns.proofs.columns.Column.to_runs.Goals as goal

pub of_array-requires : goal.of_array-requires
of_array-requires c =
    found_runs (data_type c.in_ok-dtype.dtype) c.args.self.now.dtype (row_data c.rows-rows.result.now) c.in_ok-values.values c.in_ok-starts.starts.items c.as_slice.result.now c.in_ok-starts.ends.items
    (c.in_ok-dtype.ensures ∙ c.dtype.ensures) c.as_slice.ensures.value c.in_ok-values.ensures c.in_ok-starts.ensures c.rows-rows.ensures.column
