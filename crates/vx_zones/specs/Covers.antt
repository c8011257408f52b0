-- When a table of zones covers values, and what its pruned zones then hold.
use Rattle.std.specs.Prelude.{◌≡◌, ℕ, ◌+◌, ◌*◌, ◌<◌, ◌≤◌, true, false, Bool, List, [], ◌∷◌, length, take, drop, slice_get, Option, Some, IsTrue}
use Rattle.std.specs.List.{AllByRecursion, count_by}
use Rattle.vx_base.specs.ColumnCalls.{natural}
use Rattle.vx_base.specs.Data.{DataType, Datum, null, truth}
use Rattle.vx_operators.specs.declared.operators.CompareOp.{CompareOp}
use Rattle.vx_operators.specs.declared.operators.CompareOp.TheVariants.{Eq, Le, Ge}
use Rattle.vx_operators.specs.Operators.{comparison_of, is_null}
use Rattle.vx_expr.specs.Meaning.{meaning}
use Rattle.vx_expr.specs.Terms.{Term}
use Rattle.vx_zones.specs.Prunes.{pruned_zones}
use Rattle.vx_zones.specs.Tables.{Zone, TableData, zones_in}

-- the answer is true, or null where one of the two is
abbrev pub may_be : Option Datum → Bool
may_be (Some null) = true
may_be (Some (truth b)) = b
may_be answer = false

abbrev pub MayBe : CompareOp → Datum → Datum → Type 0
MayBe op told v = IsTrue (may_be (comparison_of op told v))

-- What is told of the zone covers its values: the least is at most and the greatest at least each value that isn't null,
-- and as many are null as is told, wherever that is told.
pub record CoversZone (zone : Zone) (values : List Datum) : Type 0 where
  pub least : AllByRecursion (MayBe Le zone.least) values
  pub greatest : AllByRecursion (MayBe Ge zone.greatest) values
  pub nulls : MayBe Eq zone.nulls (natural (count_by is_null values))

-- zone by zone, each with the next so many values
abbrev pub CoverEach : ℕ → List Zone → List Datum → Type 0
CoverEach zone_len [] values = Unit {0}
CoverEach zone_len (zone ∷ zones) values = CoversZone zone (take zone_len values) × CoverEach zone_len zones (drop zone_len values)

pub record Covers (table : TableData) (values : List Datum) : Type 0 where
  pub rows : length values ≡ table.row_count
  pub each : CoverEach table.zone_len (zones_in table) values

-- Where the table covers the values, no row of the zones that a mask names makes the predicate true at the bound or at any
-- lesser one, whatever number it has.
abbrev pub NoRowIsTrue : TableData → DataType → Term → ℕ → List Bool → Type 0
NoRowIsTrue table t e bound zones = (values : List Datum) (later zone place row : ℕ) (v : Datum)
    → Covers table values → later ≤ bound
    → slice_get zones zone ≡ Some true
    → place < table.zone_len → slice_get values (zone * table.zone_len + place) ≡ Some v
    → ¬ (meaning t later e v row ≡ Some (truth true))

-- So it is of the zones that the predicate prunes at the bound.
abbrev pub PrunedIsNotTrue : Type 0
PrunedIsNotTrue = (table : TableData) (t : DataType) (e : Term) (bound : ℕ) → NoRowIsTrue table t e bound (pruned_zones bound e table)
