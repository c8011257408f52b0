use Rattle.vx_masks.proofs.Ranks.{RankedWords}
use Rattle.vx_masks.proofs.word_masks.WordMask.intersect_by_rank.Given as goal

abbrev pub invariant-loop-index : goal.invariant-loop-index
invariant-loop-index l = RankedWords l.self l.other l.index l.rank l.words.items
