use Rattle.std.proofs.Common.{refl}
use Rattle.vx_lower.specs.PlanText.{text_down}
use Rattle.vx_lower.proofs.text_laws.texts_by_hand.Goals as goal

pub returns-clause-names : goal.returns-clause-names
unfolding text_down
returns-clause-names c = refl

pub returns-clause-boxed : goal.returns-clause-boxed
unfolding text_down
returns-clause-boxed c = refl
