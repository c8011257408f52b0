use Rattle.std.proofs.Common.{◌≡◌, take}
use lib.Lanes.{mask_l}
use Rattle.vx_masks.proofs.parts.packed_word.Given as goal

abbrev pub invariant-loop-place : goal.invariant-loop-place
invariant-loop-place l = l.word ≡ mask_l (take l.place l.bits)
