use Rattle.std.proofs.Common.{◌≡◌, take}
use lib.Lanes.{zip2}
use Rattle.vx_masks.proofs.Zipped.{less}
use Rattle.vx_masks.proofs.word_masks.WordMask.without.Given as goal

abbrev pub invariant-loop-index : goal.invariant-loop-index
invariant-loop-index l = l.words.items ≡ zip2 less (take l.index l.ones) (take l.index l.others)
