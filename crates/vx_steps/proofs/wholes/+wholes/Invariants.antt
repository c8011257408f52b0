use Rattle.std.proofs.Common.{◌+◌, ◌*◌, length}
use Rattle.vx_plan.specs.Parts.{parts_left, parts_of}
use Rattle.vx_steps.specs.Wholes.{AddsAsked, KeepsValues, UsesGiven}
use Rattle.vx_steps.proofs.WholeAsking.{AreLast, ThereOrLeft}
use Rattle.vx_steps.proofs.wholes.+wholes.Given as goal

abbrev pub decreases-ready_wholes : goal.decreases-ready_wholes
decreases-ready_wholes l = 2 * l.plan

abbrev pub decreases-ready_child_rows : goal.decreases-ready_child_rows
decreases-ready_child_rows l = 2 * l.rows.child + 1

abbrev pub decreases-ready_zones : goal.decreases-ready_zones
decreases-ready_zones l = 2 * l.plan + 1

abbrev pub invariant-ready_wholes-loop-next : goal.invariant-ready_wholes-loop-next
invariant-ready_wholes-loop-next l = record {
  made : KeepsValues l.grounds.table.now l.grounds.leaves.now.here l.grounds.offset l.fn.wholes.made l.wholes.made;
  used : UsesGiven l.grounds.given.now l.fn.wholes.used l.wholes.used;
  last : AreLast (parts_of l.grounds.table.now l.plan l.start (length l.mask)) (parts_left l.grounds.table.now l.plan l.start (length l.mask) l.place);
  there : ThereOrLeft l.grounds.table.now l.grounds.given.now l.mask l.wholes (parts_of l.grounds.table.now l.plan l.start (length l.mask)) (parts_left l.grounds.table.now l.plan l.start (length l.mask) l.place);
  asked : AddsAsked l.grounds.table.now l.grounds.given.now l.plan l.start l.mask l.fn.wholes l.wholes;
}

abbrev pub decreases-ready_wholes-loop-next : goal.decreases-ready_wholes-loop-next
decreases-ready_wholes-loop-next l = length (parts_left l.grounds.table.now l.plan l.start (length l.mask) l.place)
