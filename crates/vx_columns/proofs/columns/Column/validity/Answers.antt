use Rattle.std.proofs.Common.{◌∙◌, ap, map}
use Rattle.std.proofs.lemmas.Result.{IfOk-weaker}
use Rattle.vx_types.specs.Slots.{is_value}
use Rattle.vx_columns.proofs.columns.Column.validity.Goals as goal

pub returns : goal.returns
returns c = IfOk-weaker c.validity.result _ _ (λ mask is. is ∙ ap (map is_value) c.rows-rows.ensures.values) c.validity.ensures
