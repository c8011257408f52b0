-- What a mask of zones that are pruned by a bound says.
use Rattle.std.specs.Prelude.{◌≡◌}
use Rattle.vx_expr.specs.Bound.{Bound}
use Rattle.vx_zones.specs.Covers.{NoRowIsTrue}
use Rattle.vx_zones.specs.Prunes.{pruned_zones}
use Rattle.vx_zones.specs.Tables.{TableData}
use Rattle.vx_bound.specs.declared.bounds.BoundSeat.{BoundSeat}
use Rattle.vx_bound.specs.declared.pruned_zones.BoundMask.{BoundMask}
use Rattle.vx_bound.specs.Bounds.{least_seen, IsAnswered, HasLoaded}

-- The seat was answered once, by a load: its turns rose by one, and it offered nothing.
pub record HasLoadedOnce (old new : BoundSeat) : Type 0 where
  pub answered : IsAnswered old new (least_seen new)
  pub loaded : HasLoaded old new

-- The key is what the seat has seen last, and the mask has the zones that are pruned at it.
pub record MaskGives (table : TableData) (predicate : Bound) (seat : BoundSeat) (made : BoundMask) : Type 0 where
  pub key : made.key ≡ least_seen seat
  pub mask : made.mask ≡ pruned_zones made.key predicate.term table
  -- where the table covers the values, no row is pruned that the predicate keeps at that key or at any later one
  pub keeps : NoRowIsTrue table predicate.root predicate.term made.key made.mask
