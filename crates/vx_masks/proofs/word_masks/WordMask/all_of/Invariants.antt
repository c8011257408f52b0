use Rattle.std.proofs.Common.{true, replicate}
use Rattle.vx_masks.proofs.Built.{Built}
use Rattle.vx_masks.proofs.word_masks.WordMask.all_of.Given as goal

abbrev pub invariant-loop-index : goal.invariant-loop-index
invariant-loop-index l = Built (replicate l.len true) l.index l.words.items
