use Rattle.std.proofs.Common.{◌≡◌, take}
use Rattle.vx_segments.proofs.ZeroSlots.{zeros}
use Rattle.vx_segments.proofs.number_rows.are_zero.Given as goal

abbrev pub invariant-loop-byte : goal.invariant-loop-byte
invariant-loop-byte l = take l.byte-index l.bytes ≡ zeros l.byte-index
