use Rattle.std.proofs.Common.{List, [], ◌∷◌, map, ap, ◌∙◌}
use Rattle.std.proofs.lemmas.Result.{IfOk-weaker}
use Rattle.vx_base.specs.Data.{Datum}
use Rattle.vx_expr.specs.declared.row_values.RowValue.{RowValue}
use Rattle.vx_expr.specs.Steps.{row_value_datum}
use Rattle.vx_expr.proofs.fitting.scalar_array.Goals as goal

pub returns-clause-values : goal.returns-clause-values
returns-clause-values c =
    IfOk-weaker c.row_value_array.result _ _
    (λ array is. is ∙ ap (λ (row_values : List RowValue). map row_value_datum row_values) c.in_ok-row_values.ensures.items ∙ ap (λ (w : Datum). w ∷ []) c.scalar.ensures) c.row_value_array.ensures.values
