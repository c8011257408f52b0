use Rattle.std.proofs.Common.{◌∙◌, ap}
use Rattle.std.proofs.lemmas.Result.{IfOk-weaker}
use Rattle.vx_arrays.specs.LookUps.{code_places}
use Rattle.vx_columns.proofs.columns.Column.places.Goals as goal

pub returns : goal.returns
returns c = IfOk-weaker c.places.result _ _ (λ places is. is ∙ ap (code_places c.args.past) c.rows-rows.ensures.values) c.places.ensures
