use Rattle.std.proofs.Common.{◌<◌, ◌≤◌}
use Rattle.vx_readers.specs.StrayStructs.{IsStray}
use Rattle.vx_readers.proofs.StrayChildren.{NoneAmong}
use Rattle.vx_readers.proofs.stray_structs.lower_stray.Given as goal

abbrev pub invariant-loop-place : goal.invariant-loop-place
invariant-loop-place l = record {
  most : l.least ≤ l.lowest;
  none : NoneAmong l.tree l.node l.place l.least;
  stray : l.least < l.lowest → IsStray l.tree l.least;
}
