use Rattle.std.proofs.Common.{◌<◌, ◌≤◌, length}
use Rattle.vx_readers.specs.StrayStructs.{IsStray}
use Rattle.vx_readers.proofs.StrayChildren.{NoneBelow}
use Rattle.vx_readers.proofs.stray_structs.lowest_stray.Given as goal

abbrev pub invariant-loop-node : goal.invariant-loop-node
invariant-loop-node l = record {
  most : l.lowest ≤ length l.tree;
  none : NoneBelow l.tree l.node l.lowest;
  stray : l.lowest < length l.tree → IsStray l.tree l.lowest;
}
