use Rattle.std.proofs.Common.{◌≡◌, ◌^◌, take}
use lib.Lanes.{number_l}
use Rattle.vx_masks.proofs.parts.word_of_bytes.Given as goal

abbrev pub invariant-loop-place : goal.invariant-loop-place
invariant-loop-place l = l.word ≡ number_l (2 ^ 8) (take l.place l.bytes)
