use Rattle.std.proofs.Common.{◌≡◌, ◌+◌, ◌-◌, ◌≤◌, ◌^◌, min, length, take, sum_by}
use lib.Count.{ones}
use Rattle.vx_masks.proofs.kernels.count_ones.Given as goal

abbrev pub invariant-loop-place : goal.invariant-loop-place
invariant-loop-place l = record {
  inside : l.place ≤ length l.words;
  counted : l.count ≡ min (sum_by ones (take l.place l.words)) (2 ^ 64 - 1);
}

abbrev pub decreases-loop-place : goal.decreases-loop-place
decreases-loop-place l = length l.initial.words - l.place

abbrev pub invariant-loop-word : goal.invariant-loop-word
invariant-loop-word l = record {
  inside : l.place ≤ length l.words;
  counted : l.count ≡ min (sum_by ones (take (l.place + l.word-index) l.words)) (2 ^ 64 - 1);
}
