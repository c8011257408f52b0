use Rattle.vx_claims.proofs.Wholes.{closed_apart, closed_whole}
use Rattle.vx_claims.proofs.laws.closed_claims_are_apart.Goals as goal

pub returns-clause-apart : goal.returns-clause-apart
returns-clause-apart c = closed_apart

pub returns-clause-whole : goal.returns-clause-whole
returns-clause-whole c = closed_whole
