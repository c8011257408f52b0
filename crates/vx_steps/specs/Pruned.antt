-- The rows of a pruning plan, by what is told of its zones.
use Rattle.std.specs.Prelude.{◌≡◌, ℕ, ◌/◌, Bool, false, get_or, List, length, map, Some}
use Rattle.vx_base.specs.Columns.{ColumnData}
use Rattle.vx_base.specs.Data.{Datum, truth}
use Rattle.vx_expr.specs.Bound.{Bound}
use Rattle.vx_expr.specs.Rows.{no_bound}
use Rattle.vx_picking.specs.Rows.{rows_of}
use Rattle.vx_plan.specs.Kinds.{proof_of, stats_of, zone_len_of}
use Rattle.vx_plan.specs.Nodes.{Node}
use Rattle.vx_plan.specs.Pruning.{pruning_of, zone_table}
use Rattle.vx_zones.specs.Prunes.{pruned_zones}
use Rattle.vx_zones.specs.Tables.{IsTable}

-- The column is the table of the node's zones, over the root of the predicate.
abbrev pub TellsOfZones : Node → ColumnData → Type 0
TellsOfZones node told = (predicate : Bound) → proof_of node.kind ≡ Some predicate → IsTable predicate.root (stats_of node.kind) told.dtype (length told.values) (zone_len_of node.kind) node.rows

-- which zones the predicate prunes, where no bound is told
abbrev pub zones_pruned : Node → Bound → List Datum → List Bool
zones_pruned node predicate told = pruned_zones no_bound predicate.term (zone_table (pruning_of (zone_len_of node.kind) (stats_of node.kind) predicate) node.rows told)

abbrev pub ArePruned : Node → List Datum → List Bool → Type 0
ArePruned node told pruned = (predicate : Bound) → proof_of node.kind ≡ Some predicate → pruned ≡ zones_pruned node predicate told

-- of each selected row whether its zone is one of those
abbrev pub rows_pruned : List Bool → ℕ → ℕ → List Bool → List Bool
rows_pruned pruned zone_len start bits = map (λ row. get_or pruned (row / zone_len) false) (rows_of start bits)

abbrev pub TellOfRows : Node → List Datum → ℕ → List Bool → List Datum → Type 0
TellOfRows node told start bits values = (predicate : Bound) → proof_of node.kind ≡ Some predicate → values ≡ map truth (rows_pruned (zones_pruned node predicate told) (zone_len_of node.kind) start bits)
