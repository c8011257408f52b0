use Rattle.std.proofs.Common.{◌+◌, ◌*◌, ◌-◌, length, map, take}
use Rattle.vx_plan.specs.Refs.{number_of}
use Rattle.vx_lower.specs.Keeping.{kept_of}
use Rattle.vx_lower.specs.NodeParts.{lowered_each}
use Rattle.vx_lower.specs.Numbered.{AddsPlans}
use Rattle.vx_lower.proofs.lowering_kept.+kept.Given as goal

abbrev pub decreases-lower_kept : goal.decreases-lower_kept
decreases-lower_kept l = 4 * (length l.tree.now - l.node) + 3

abbrev pub decreases-keep_chunks : goal.decreases-keep_chunks
decreases-keep_chunks l = 4 * (length l.tree.now - l.node) + 2

abbrev pub decreases-keep_zoned : goal.decreases-keep_zoned
decreases-keep_zoned l = 4 * (length l.tree.now - l.node) + 2

abbrev pub decreases-keep_each : goal.decreases-keep_each
decreases-keep_each l = 4 * (length l.tree.now - l.node)

abbrev pub invariant-keep_each-loop-child : goal.invariant-keep_each-loop-child
invariant-keep_each-loop-child l = AddsPlans l.fn.table l.table (lowered_each l.tree (kept_of l.keeping) (take l.child-index l.children)) (map number_of l.plans.items)
