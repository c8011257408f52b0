use Rattle.std.proofs.Common.{◌∙◌}
use Rattle.std.proofs.lemmas.Result.{IfOk-weaker}
use Rattle.vx_columns.proofs.SpreadRuns.{spread_validity}
use Rattle.vx_columns.proofs.run_rows.Runs.validity.Goals as goal

pub returns : goal.returns
returns c =
    IfOk-weaker c.spread_mask.result _ _ (λ mask is. is ∙ spread_validity c.validity.result.now c.self.inside.values c.args.self.now c.self.inside.ends.items c.as_slice.result.now c.self.view_is c.as_slice.ensures.value c.validity.ensures) c.spread_mask.ensures
