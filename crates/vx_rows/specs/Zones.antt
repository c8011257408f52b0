-- How rows are cut into zones, and what a table of zones holds of the rows of a dtype.
use Rattle.std.specs.Prelude.{ℕ, Bool, codes, List, map, All}
use Rattle.vx_base.specs.declared.dtypes.IntKind.TheVariants.{U64}
use Rattle.vx_base.specs.declared.dtypes.Nullability.TheVariants.{NonNullable, Nullable}
use Rattle.vx_base.specs.Data.{DataType, int_type, struct_type}
use Rattle.vx_base.specs.Leaf.{IsLeaf}
use Rattle.vx_base.specs.ColumnCalls.{made_nullable}
use Rattle.vx_base.specs.Views.{FieldData, members_from}
use Rattle.vx_expr.specs.declared.statistics.Statistic.{Statistic}
use Rattle.vx_expr.specs.declared.statistics.Statistic.TheVariants.{Min, Max, NullCount}

-- So many rows for each zone, and what is told of it. A node of the older form has zones too, which are never asked.
pub record Zones : Type 0 where
  pub is_legacy : Bool
  pub zone_len : ℕ
  pub statistics : List Statistic

abbrev pub zones_of : Bool → ℕ → List Statistic → Zones
zones_of is_legacy zone_len stats = record { is_legacy = is_legacy; zone_len = zone_len; statistics = stats }

-- ---- tables of zones

abbrev pub name_of : Statistic → List ℕ
name_of Min = codes "min"
name_of Max = codes "max"
name_of NullCount = codes "null_count"

-- the dtype of a statistic of rows of a dtype
abbrev pub statistic_type : DataType → Statistic → DataType
statistic_type t Min = made_nullable t
statistic_type t Max = made_nullable t
statistic_type t NullCount = int_type U64 Nullable

abbrev pub statistic_field : DataType → Statistic → FieldData
statistic_field t stat = record { name = name_of stat; dtype = statistic_type t stat }

-- one field for each statistic, in order
abbrev pub zones_type : DataType → List Statistic → DataType
zones_type t stats = struct_type (members_from (map (statistic_field t) stats)) NonNullable

-- Only a leaf dtype has a least and a greatest value.
abbrev pub StandsOver : DataType → Statistic → Type 0
StandsOver t Min = IsLeaf t
StandsOver t Max = IsLeaf t
StandsOver t NullCount = Unit {0}

abbrev pub StandOver : DataType → List Statistic → Type 0
StandOver t stats = All (StandsOver t) stats
