use Rattle.std.proofs.Common.{◌≡◌, take}
use Rattle.std.specs.Int.Bits.{bit_or}
use lib.Lanes.{zip2}
use Rattle.vx_masks.proofs.word_masks.WordMask.either.Given as goal

abbrev pub invariant-loop-index : goal.invariant-loop-index
invariant-loop-index l = l.words.items ≡ zip2 bit_or (take l.index l.ones) (take l.index l.others)
