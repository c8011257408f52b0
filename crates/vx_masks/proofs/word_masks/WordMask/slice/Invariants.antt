use Rattle.std.proofs.Common.{slice_range}
use Rattle.vx_masks.proofs.Built.{Built}
use Rattle.vx_masks.proofs.word_masks.WordMask.slice.Given as goal

abbrev pub invariant-loop-index : goal.invariant-loop-index
invariant-loop-index l = Built (slice_range l.self l.start l.end) l.index l.words.items
