use Rattle.std.proofs.Common.{◌≡◌, ◌++◌, length, take}
use Rattle.std.specs.Int.{w32, to_le_bytes}
use Rattle.std.specs.List.{flat_map}
use Rattle.vx_arrays.proofs.texts.Texts.write_lengths.Given as goal

abbrev pub invariant-loop-row : goal.invariant-loop-row
invariant-loop-row l = l.bytes.items ≡ l.fn.bytes.items ++ flat_map (λ t. to_le_bytes w32 (length t)) (take l.row l.self)
