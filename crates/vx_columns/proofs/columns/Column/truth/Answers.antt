use Rattle.std.proofs.Common.{◌∙◌, ap, map}
use Rattle.std.proofs.lemmas.Result.{IfOk-weaker}
use Rattle.vx_types.specs.Slots.{truth_in}
use Rattle.vx_columns.proofs.columns.Column.truth.Goals as goal

pub returns : goal.returns
returns c = IfOk-weaker c.truth.result _ _ (λ mask is. is ∙ ap (map truth_in) c.rows-rows.ensures.values) c.truth.ensures
