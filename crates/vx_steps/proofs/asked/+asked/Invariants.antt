use Rattle.std.proofs.Common.{[], ◌+◌, ◌*◌, ℕ, List, length}
use Rattle.vx_plan.specs.Parts.{parts_left, parts_of}
use Rattle.vx_steps.specs.Needs.{Adds}
use Rattle.vx_steps.proofs.PartsAsking.{PartsAsk}
use Rattle.vx_steps.proofs.asked.+asked.Given as goal

abbrev pub decreases-add_asked : goal.decreases-add_asked
decreases-add_asked l = 2 * l.plan

abbrev pub decreases-add_rows_asked : goal.decreases-add_rows_asked
decreases-add_rows_asked l = 2 * l.rows.child + 1

abbrev pub decreases-add_zones_asked : goal.decreases-add_zones_asked
decreases-add_zones_asked l = 2 * l.plan + 1

abbrev pub invariant-add_asked-loop-next : goal.invariant-add_asked-loop-next
invariant-add_asked-loop-next l = (new : List ℕ) → Adds (PartsAsk l.table [] l.mask (parts_left l.table l.plan l.start (length l.mask) l.place)) l.asked.items new → Adds (PartsAsk l.table [] l.mask (parts_of l.table l.plan l.start (length l.mask))) l.fn.asked.items new

abbrev pub decreases-add_asked-loop-next : goal.decreases-add_asked-loop-next
decreases-add_asked-loop-next l = length (parts_left l.table l.plan l.start (length l.mask) l.place)
