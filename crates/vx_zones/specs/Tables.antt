-- Tables of zones as data: what they tell of each zone, and which rows a zone has.
use Rattle.std.specs.Prelude.{◌≡◌, refl, ℕ, ◌+◌, ◌-◌, ◌<◌, min, Bool, true, false, if◌then◌else◌, List, [], ◌∷◌, Option, Some, None, option_map}
use Rattle.std.specs.Int.{div_ceil}
use Rattle.std.specs.Coded.{Coded, code_by, coded×, coded_ℕ, coded_list}
use Rattle.vx_base.specs.Codes.{coded_type, coded_datum}
use Rattle.vx_base.specs.Data.{DataType, Datum, null}
use Rattle.vx_expr.specs.declared.statistics.Statistic.{Statistic}
use Rattle.vx_expr.specs.declared.statistics.Statistic.TheVariants.{Min, Max, NullCount}
use Rattle.vx_expr.specs.StatisticCodes.{coded_statistics}
use Rattle.vx_arrays.specs.Fields.{field_at}
use Rattle.vx_rows.specs.Zones.{zones_type, StandOver}

-- ---- one zone

-- What is told of a zone: its least value, its greatest one and how many of its rows are null, null where that isn't
-- told, and how many rows it has.
pub record Zone : Type 0 where
  pub least : Datum
  pub greatest : Datum
  pub nulls : Datum
  pub rows : ℕ

-- whether the statistics are the same
abbrev pub same_statistic : Statistic → Statistic → Bool
same_statistic Min Min = true
same_statistic Max Max = true
same_statistic NullCount NullCount = true
same_statistic stat other = false

-- the place of the first such statistic
abbrev pub place_of : Statistic → List Statistic → Option ℕ
place_of stat [] = None
place_of stat (other ∷ stats) = if same_statistic stat other then Some 0 else option_map (λ place. 1 + place) (place_of stat stats)

-- a zone's statistic at a place, which is null where there is none
abbrev pub told_at : Option ℕ → Datum → Datum
told_at None told = null
told_at (Some place) told = field_at place told

abbrev pub zone_of : List Statistic → ℕ → Datum → Zone
zone_of stats rows told = record { least = told_at (place_of Min stats) told; greatest = told_at (place_of Max stats) told; nulls = told_at (place_of NullCount stats) told; rows = rows }

-- ---- a table

-- The dtype of the rows, the statistics, what is told of each zone, how many rows a zone has and how many there are.
pub record TableData : Type 0 where
  pub dtype : DataType
  pub stats : List Statistic
  pub told : List Datum
  pub zone_len : ℕ
  pub row_count : ℕ

abbrev pub table_of : DataType → List Statistic → List Datum → ℕ → ℕ → TableData
table_of dtype stats told zone_len row_count = record { dtype = dtype; stats = stats; told = told; zone_len = zone_len; row_count = row_count }

-- each zone has as many rows as a zone has, the last one what is left
abbrev pub zones_along : List Statistic → ℕ → ℕ → List Datum → List Zone
zones_along stats zone_len left [] = []
zones_along stats zone_len left (told ∷ rest) = zone_of stats (min zone_len left) told ∷ zones_along stats zone_len (left - zone_len) rest

abbrev pub zones_in : TableData → List Zone
zones_in table = zones_along table.stats table.zone_len table.row_count table.told

-- There is a zone for each so many rows, with a value for each statistic, and each statistic stands over the dtype.
pub record IsTable (dtype : DataType) (stats : List Statistic) (t : DataType) (zones zone_len row_count : ℕ) : Type 0 where
  pub some_rows : 0 < zone_len
  pub stand : StandOver dtype stats
  pub shape : t ≡ zones_type dtype stats
  pub count : zones ≡ div_ceil row_count zone_len

-- ---- as a tree of numbers
abbrev pub coded_table : Coded TableData
coded_table = code_by (DataType × (List Statistic × (List Datum × (ℕ × ℕ)))) (coded× coded_type (coded× coded_statistics (coded× (coded_list coded_datum) (coded× coded_ℕ coded_ℕ))))
    (λ t. (t.dtype, (t.stats, (t.told, (t.zone_len, t.row_count))))) (λ p. record { dtype = p.0; stats = p.1.0; told = p.1.1.0; zone_len = p.1.1.1.0; row_count = p.1.1.1.1 }) (λ _. refl)
