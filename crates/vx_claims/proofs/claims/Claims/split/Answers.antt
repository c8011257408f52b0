use Rattle.std.proofs.Common.{rules}
use Rattle.vx_claims.proofs.Calls.{allows_split}
use Rattle.vx_claims.proofs.claims.Claims.split.Goals as goal

pub split_seat-new-requires : goal.split_seat-new-requires
split_seat-new-requires c = (search rules, search rules, allows_split _ _ _ c.requires.untold c.requires.parts)
