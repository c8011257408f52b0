use Rattle.std.proofs.Common.{◌+◌, ◌*◌, ◌-◌, length, map, take}
use Rattle.vx_layout.specs.Kept.{all}
use Rattle.vx_plan.specs.Refs.{number_of}
use Rattle.vx_lower.specs.NodeParts.{lowered_each}
use Rattle.vx_lower.specs.Numbered.{AddsPlans}
use Rattle.vx_lower.proofs.lowering_whole.+whole.Given as goal

abbrev pub decreases-lower_whole : goal.decreases-lower_whole
decreases-lower_whole l = 4 * (length l.tree.now - l.node) + 3

abbrev pub decreases-lower_chunks : goal.decreases-lower_chunks
decreases-lower_chunks l = 4 * (length l.tree.now - l.node) + 2

abbrev pub decreases-lower_fields : goal.decreases-lower_fields
decreases-lower_fields l = 4 * (length l.tree.now - l.node) + 2

abbrev pub decreases-lower_look_up : goal.decreases-lower_look_up
decreases-lower_look_up l = 4 * (length l.tree.now - l.node) + 2

abbrev pub decreases-lower_lists : goal.decreases-lower_lists
decreases-lower_lists l = 4 * (length l.tree.now - l.node) + 2

abbrev pub decreases-lower_zoned : goal.decreases-lower_zoned
decreases-lower_zoned l = 4 * (length l.tree.now - l.node) + 2

abbrev pub decreases-lower_packed : goal.decreases-lower_packed
decreases-lower_packed l = 4 * (length l.tree.now - l.node) + 1

abbrev pub decreases-lower_each : goal.decreases-lower_each
decreases-lower_each l = 4 * (length l.tree.now - l.node)

abbrev pub decreases-lower_validity : goal.decreases-lower_validity
decreases-lower_validity l = 4 * (length l.tree.now - l.node)

abbrev pub invariant-lower_each-loop-child : goal.invariant-lower_each-loop-child
invariant-lower_each-loop-child l = AddsPlans l.fn.table l.table (lowered_each l.tree all (take l.child-index l.children)) (map number_of l.plans.items)
