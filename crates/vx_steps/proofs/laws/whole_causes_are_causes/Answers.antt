use Rattle.vx_steps.proofs.WholeCauses.{whole_cause, whole_leaf}
use Rattle.vx_steps.proofs.laws.whole_causes_are_causes.Goals as goal

pub returns : goal.returns
returns c = record { causes = whole_cause; leaves = whole_leaf }
