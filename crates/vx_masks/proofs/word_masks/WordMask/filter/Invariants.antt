use Rattle.vx_masks.proofs.Taken.{Sifted}
use Rattle.vx_masks.proofs.word_masks.WordMask.filter.Given as goal

abbrev pub invariant-loop-index : goal.invariant-loop-index
invariant-loop-index l = Sifted l.mask l.self l.index l.words.items l.rest l.len
