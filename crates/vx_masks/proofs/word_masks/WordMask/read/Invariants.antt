use Rattle.std.proofs.Common.{◌^◌}
use lib.Lanes.{number_l}
use Rattle.vx_masks.specs.Words.{low_bits}
use Rattle.vx_masks.proofs.Built.{Built}
use Rattle.vx_masks.proofs.word_masks.WordMask.read.Given as goal

abbrev pub invariant-loop-index : goal.invariant-loop-index
invariant-loop-index l = Built (low_bits l.len (number_l (2 ^ 8) l.bytes)) l.index l.words.items
