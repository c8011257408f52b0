use Rattle.std.proofs.Common.{rules}
use Rattle.vx_claims.proofs.Calls.{allows_join}
use Rattle.vx_claims.proofs.claims.Claims.join.Goals as goal

pub join_seat-requires : goal.join_seat-requires
join_seat-requires c = (search rules, search rules, search rules, search rules, allows_join _ _ _ _ _ c.args.seat.now.alive c.args.other.alive)
