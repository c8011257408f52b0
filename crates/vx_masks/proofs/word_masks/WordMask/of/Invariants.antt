use Rattle.vx_masks.proofs.Built.{Built}
use Rattle.vx_masks.proofs.word_masks.WordMask.of.Given as goal

abbrev pub invariant-loop-index : goal.invariant-loop-index
invariant-loop-index l = Built l.rows l.index l.words.items
