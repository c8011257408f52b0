use Rattle.std.proofs.Common.{◌∙◌, sym, ap, subst}
use Rattle.std.proofs.lemmas.Result.{IfOk-weaker}
use Rattle.vx_types.specs.Columns.{ColumnData}
use Rattle.vx_types.specs.Views.{data_type}
use Rattle.vx_arrays.specs.PackedColumns.{IsColumn}
use Rattle.vx_columns.proofs.columns.Column.into_shared.Goals as goal

pub returns-clause-values : goal.returns-clause-values
returns-clause-values c = IfOk-weaker c.into_shared.result _ _ (λ array is. ap (λ (a : ColumnData). a.values) is ∙ ap (λ (a : ColumnData). a.values) c.self.view_is) c.into_shared.ensures

pub returns-clause-column : goal.returns-clause-column
returns-clause-column c =
    IfOk-weaker c.into_shared.result _ _ (λ array is. subst (λ (a : ColumnData). IsColumn a.dtype array) c.self.view_is (subst (λ (a : ColumnData). IsColumn (data_type c.self.inside.dtype) a) (sym is) c.self.invariant)) c.into_shared.ensures
