use Rattle.vx_zones.proofs.NoProof.{without_proof}
use Rattle.vx_zones.proofs.laws.proofs_alone_prune.Goals as goal

pub returns : goal.returns
returns c = without_proof
