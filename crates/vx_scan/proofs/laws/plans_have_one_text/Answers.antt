use Rattle.vx_scan.proofs.OneText.{one_text}
use Rattle.vx_scan.proofs.laws.plans_have_one_text.Goals as goal

pub returns : goal.returns
returns c = one_text
