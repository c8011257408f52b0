use Rattle.std.proofs.Common.{◌∙◌, ap, map}
use Rattle.std.proofs.lemmas.Result.{IfOk-weaker}
use Rattle.vx_base.specs.ValueViews.{datum}
use Rattle.vx_expr.proofs.fitting.row_value_array.Goals as goal

pub returns-clause-values : goal.returns-clause-values
returns-clause-values c = IfOk-weaker c.of_values.result _ _ (λ array is. is ∙ ap (map datum) c.as_slice.ensures.value ∙ c.in_ok-values.ensures) c.of_values.ensures.values
