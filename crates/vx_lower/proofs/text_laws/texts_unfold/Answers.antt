use Rattle.vx_lower.proofs.PlanLines.{lines_unfold}
use Rattle.vx_lower.proofs.text_laws.texts_unfold.Goals as goal

pub returns : goal.returns
returns c = lines_unfold
