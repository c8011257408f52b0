-- What a pruning plan asks of zones, and its answer at a row.
use Rattle.std.specs.Prelude.{ℕ, ◌/◌, List, Option, option_map}
use Rattle.std.specs.List.{slice_get}
use Rattle.vx_base.specs.Data.{Datum, truth}
use Rattle.vx_expr.specs.declared.statistics.Statistic.{Statistic}
use Rattle.vx_expr.specs.Bound.{Bound}
use Rattle.vx_expr.specs.Rows.{no_bound}
use Rattle.vx_zones.specs.Prunes.{pruned_zones}
use Rattle.vx_zones.specs.Tables.{TableData, table_of}

-- So many rows for each zone, what is told of it, and the predicate whose rows a zone may lack.
pub record Pruning : Type 0 where
  pub zone_len : ℕ
  pub statistics : List Statistic
  pub predicate : Bound

abbrev pub pruning_of : ℕ → List Statistic → Bound → Pruning
pruning_of zone_len stats predicate = record { zone_len = zone_len; statistics = stats; predicate = predicate }

-- the table of so many rows, by what is told of each zone
abbrev pub zone_table : Pruning → ℕ → List Datum → TableData
zone_table pruning rows told = table_of pruning.predicate.root pruning.statistics told pruning.zone_len rows

-- Whether the zone of a row is pruned where no bound is told, by what is told of all zones; none where it has no zone.
abbrev pub is_pruned_at : Pruning → ℕ → ℕ → List Datum → Option Datum
is_pruned_at pruning rows row told = option_map truth (slice_get (pruned_zones no_bound pruning.predicate.term (zone_table pruning rows told)) (row / pruning.zone_len))
