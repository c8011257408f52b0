use Rattle.vx_scan.proofs.RowCauses.{errors_caused}
use Rattle.vx_scan.proofs.laws.errors_have_causes.Goals as goal

pub returns : goal.returns
returns c = errors_caused
