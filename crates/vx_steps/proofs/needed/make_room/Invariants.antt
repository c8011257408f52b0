use Rattle.std.proofs.Common.{◌≡◌}
use Rattle.vx_steps.specs.HeldData.{KeepsRoom}
use Rattle.vx_steps.proofs.SegmentRuns.{HaveRoomBut}
use Rattle.vx_steps.proofs.needed.make_room.Given as goal

abbrev pub invariant-loop-place : goal.invariant-loop-place
invariant-loop-place l = record {
  room : HaveRoomBut l.needs l.place l.held;
  kept : KeepsRoom l.fn.held l.held;
  held : l.held.held ≡ l.fn.held.held;
}
