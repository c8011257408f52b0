-- What a seat has once keys were offered, by it or by seats that it gave and took in again.
use Rattle.std.specs.Prelude.{◌≡◌, ℕ, ◌+◌, ◌*◌, List, ◌++◌, length}
use Rattle.vx_bound.specs.declared.bounds.BoundTable.{BoundTable}
use Rattle.vx_bound.specs.declared.bounds.BoundSeat.{BoundSeat}
use Rattle.vx_bound.specs.Bounds.{offers, parts, turns, IsSeatOf}

-- The seat offered these keys, one after another, and loaded the bound after each.
pub record OffersEach (bound : BoundTable) (old new : BoundSeat) (keys : List ℕ) : Type 0 where
  pub own : IsSeatOf bound new
  pub offers : offers new ≡ offers old ++ keys
  pub turns : turns new ≡ turns old + 2 * length keys
  pub parts : parts new ≡ parts old

-- Others offered these keys, and the seat took them in. It has all parts that it had, and was answered nothing itself.
pub record TakesOffers (bound : BoundTable) (old new : BoundSeat) (keys : List ℕ) : Type 0 where
  pub own : IsSeatOf bound new
  pub offers : offers new ≡ offers old ++ keys
  pub turns : turns new ≡ turns old
  pub parts : parts new ≡ parts old
