use Rattle.std.proofs.Common.{◌≡◌, ◌≤◌, map, max}
use Rattle.vx_steps.specs.Delivered.{KeepsLeaves}
use Rattle.vx_steps.specs.LeafStores.{KeepsHere}
use Rattle.vx_steps.specs.Pieces.{read_of}
use Rattle.vx_steps.specs.ReadTable.{KeepsGone}
use Rattle.vx_steps.specs.Releasing.{IsServed}
use Rattle.vx_steps.specs.Wants.{IsNeededLeaf}
use Rattle.vx_steps.specs.Wholes.{AddsOnly}
use Rattle.vx_steps.proofs.leaves.decode_last.Given as goal

abbrev pub invariant-loop-place : goal.invariant-loop-place
invariant-loop-place l = record {
  served : IsServed l.leaves.all l.reads (map read_of l.needs);
  still_gone : KeepsGone l.fn.reads.stored l.reads.stored;
  wanted : l.reads.wanted ≡ l.fn.reads.wanted;
  handed : l.reads.handed ≡ l.fn.reads.handed;
  count : l.reads.passed ≡ l.place;
  keeps : KeepsLeaves l.table l.fn.reads.wanted l.fn.leaves.all l.leaves.all;
  only : AddsOnly (IsNeededLeaf (map read_of l.needs)) l.fn.leaves.all l.leaves.all;
  here : KeepsHere l.fn.leaves l.leaves;
  forwards : l.fn.next ≤ l.next;
  behind : l.next ≤ max l.fn.next l.place;
}
