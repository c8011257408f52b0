use Rattle.vx_masks.proofs.Found.{Zeros}
use Rattle.vx_masks.proofs.word_masks.WordMask.first.Given as goal

abbrev pub invariant-loop-index : goal.invariant-loop-index
invariant-loop-index l = Zeros l.words 0 l.index
