use Rattle.std.proofs.Common.{◌≡◌, ◌≤◌, length}
use Rattle.vx_steps.proofs.AddedNeeds.{AreCountedBut}
use Rattle.vx_steps.proofs.still_read.count_segments.Given as goal

abbrev pub invariant-loop-place : goal.invariant-loop-place
invariant-loop-place l = record {
  few : l.run ≤ l.place;
  none : length l.needs ≤ l.place → l.run ≡ 0;
  counted : AreCountedBut l.needs l.place l.run l.fn.counts l.counts;
}
