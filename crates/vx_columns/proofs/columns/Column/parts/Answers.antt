use Rattle.std.proofs.Common.{◌∙◌}
use Rattle.vx_columns.specs.StoredRows.{row_data}
use Rattle.vx_columns.proofs.RunRows.{run_column}
use Rattle.vx_columns.proofs.columns.Column.parts.Goals as goal

pub returns-in-Runs-clause-column : goal.returns-in-Runs-clause-column
returns-in-Runs-clause-column c =
    run_column c.args.self.now.dtype (row_data c.rows.result.now) c.parts.result.0.now c.parts.result.1.now c.parts.ensures.same c.parts.ensures.rise (c.parts.ensures.column ∙ c.in-Runs.ensures) c.rows.ensures.column
