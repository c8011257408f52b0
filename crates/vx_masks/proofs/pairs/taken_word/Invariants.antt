use Rattle.std.proofs.Common.{◌≡◌, false, take}
use lib.Lanes.{mask_l}
use Rattle.vx_masks.specs.Rows.{taken}
use Rattle.vx_masks.proofs.pairs.taken_word.Given as goal

abbrev pub invariant-loop-index : goal.invariant-loop-index
invariant-loop-index l = l.word ≡ mask_l (take l.index (taken false l.mask l.places))
