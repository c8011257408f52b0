use Rattle.std.proofs.Common.{◌≤◌, length}
use Rattle.vx_masks.proofs.Found.{Zeros}
use Rattle.vx_masks.proofs.word_masks.WordMask.last.Given as goal

abbrev pub invariant-loop-later : goal.invariant-loop-later
invariant-loop-later l = record {
  inside : l.later ≤ length l.words;
  zeros : Zeros l.words l.later (length l.words);
}

abbrev pub decreases-loop-later : goal.decreases-loop-later
decreases-loop-later l = l.later
