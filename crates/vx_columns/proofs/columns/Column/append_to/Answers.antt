use Rattle.std.proofs.Common.{◌∙◌, ◌++◌, ap, refl}
use Rattle.std.proofs.lemmas.Result.{IfOk-weaker}
use Rattle.vx_types.specs.Columns.{ColumnData}
use Rattle.vx_columns.specs.StoredRows.{row_data}
use Rattle.vx_arrays.proofs.PackedRows.{same_shape, column_joined}
use Rattle.vx_columns.proofs.columns.Column.append_to.Goals as goal

pub append_to-requires : goal.append_to-requires
append_to-requires c = same_shape c.args.self.now.dtype c.args.self.now.dtype c.args.array (row_data c.rows-rows.result.now) refl c.requires c.rows-rows.ensures.column

pub returns-clause-column : goal.returns-clause-column
returns-clause-column c =
    IfOk-weaker c.append_to.result _ _ (λ made is. column_joined c.args.self.now.dtype c.args.self.now.dtype c.args.array (row_data c.rows-rows.result.now) made refl is c.requires c.rows-rows.ensures.column) c.append_to.ensures

pub returns-clause-values : goal.returns-clause-values
returns-clause-values c =
    IfOk-weaker c.append_to.result _ _ (λ made is. ap (λ (a : ColumnData). a.values) is ∙ (λ i. c.args.array.values ++ c.rows-rows.ensures.values i)) c.append_to.ensures
