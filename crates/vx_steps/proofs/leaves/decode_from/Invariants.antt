use Rattle.std.proofs.Common.{◌-◌, length, map}
use Rattle.vx_steps.specs.Delivered.{KeepsLeaves}
use Rattle.vx_steps.specs.LeafStores.{KeepsHere}
use Rattle.vx_steps.specs.OpenSegments.{AreCounted}
use Rattle.vx_steps.specs.Pieces.{read_of}
use Rattle.vx_steps.specs.Releasing.{LetsSpentGo}
use Rattle.vx_steps.specs.Tries.{MovesNext}
use Rattle.vx_steps.specs.Wants.{IsNeededLeaf}
use Rattle.vx_steps.specs.Wholes.{AddsOnly}
use Rattle.vx_steps.proofs.leaves.decode_from.Given as goal

abbrev pub decreases-needs : goal.decreases-needs
decreases-needs l = length l.needs - l.next

abbrev pub invariant-needs : goal.invariant-needs
invariant-needs l = record {
  counted : AreCounted l.table l.leaves.all l.segments;
  keeps : KeepsLeaves l.table l.fn.reads.wanted l.fn.leaves.all l.leaves.all;
  only : AddsOnly (IsNeededLeaf (map read_of l.needs)) l.fn.leaves.all l.leaves.all;
  here : KeepsHere l.fn.leaves l.leaves;
  lets : LetsSpentGo l.table l.leaves.all l.fn.reads l.reads;
  moves : MovesNext l.needs l.leaves.all l.fn.next l.next;
}
