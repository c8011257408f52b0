use Rattle.std.proofs.Common.{◌+◌, ◌*◌}
use Rattle.vx_expr.specs.Counts.{node_count}
use Rattle.vx_expr.specs.TermViews.{term}
use Rattle.vx_zones.proofs.tables.ZoneTable.+pruning.Given as goal

abbrev pub decreases-pruned : goal.decreases-pruned
decreases-pruned l = 2 * node_count (term l.predicate.now)

abbrev pub decreases-pruned_by_either : goal.decreases-pruned_by_either
decreases-pruned_by_either l = 2 * (node_count l.left.now + node_count l.right.now) + 1

abbrev pub decreases-pruned_by_both : goal.decreases-pruned_by_both
decreases-pruned_by_both l = 2 * (node_count l.left.now + node_count l.right.now) + 1
