use Rattle.std.proofs.Common.{◌∙◌}
use Rattle.std.proofs.lemmas.Result.{IfOk-weaker}
use Rattle.vx_masks.specs.Masks.{both}
use Rattle.vx_operators.proofs.sides.Side.both_valid.Goals as goal

pub returns : goal.returns
returns g c = IfOk-weaker c.both.result _ _ (λ mask is. is ∙ (λ i. both (c.valid.ensures i) (c.valid-2.ensures i))) c.both.ensures
