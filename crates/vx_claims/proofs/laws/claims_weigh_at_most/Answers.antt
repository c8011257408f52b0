use Rattle.vx_claims.proofs.Weights.{weigh_at_most}
use Rattle.vx_claims.proofs.laws.claims_weigh_at_most.Goals as goal

pub returns : goal.returns
returns c = weigh_at_most
