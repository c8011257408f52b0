use Rattle.std.proofs.Common.{rules}
use Rattle.vx_claims.proofs.Calls.{allows_draw, claims_below}
use Rattle.vx_claims.proofs.claims.ClaimSeat.claim.Goals as goal

pub fetch_add-found-requires : goal.fetch_add-found-requires
fetch_add-found-requires c = (search rules, search rules, allows_draw _ _ _ _ (search rules) c.args.self.now.alive)

pub returns-then-found-claims-clause-gives : goal.returns-then-found-claims-clause-gives
returns-then-found-claims-clause-gives c = claims_below _ _ _ _ c.requires.count (search rules) (search rules) (search rules)
