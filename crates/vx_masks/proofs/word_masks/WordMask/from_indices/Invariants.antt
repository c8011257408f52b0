use Rattle.std.proofs.Common.{take}
use Rattle.vx_masks.proofs.Marks.{Marks}
use Rattle.vx_masks.proofs.word_masks.WordMask.from_indices.Given as goal

abbrev pub invariant-loop-index : goal.invariant-loop-index
invariant-loop-index l = Marks l.len (take l.index-index l.indices) l.words.items
