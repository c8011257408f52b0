use Rattle.vx_claims.proofs.Calls.{closes}
use Rattle.vx_claims.proofs.claims.Claims.close.Goals as goal

pub returns : goal.returns
returns c = closes _ _ _ _ _ _ c.args.seat.alive c.close_with-closed.ensures.values.2 c.word-word.ensures
