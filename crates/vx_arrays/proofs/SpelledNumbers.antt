-- Numbers of a kind and the bytes that spell them, number by number.
use Rattle.std.proofs.Common.{◌≡◌, ℕ, ℤ, ◌+◌, ◌-◌, ◌*◌, List, ◌++◌, length, map}
use Rattle.std.specs.List.{flat_map}
use Rattle.std.specs.Int.{byte_len}
use Rattle.vx_types.specs.declared.dtypes.IntKind.{IntKind}
use Rattle.vx_types.specs.Slots.{number_bytes, width_of}

-- what was read of the bytes so far
pub record ReadSoFar {X : Type 0} (kind : IntKind) (number : X → ℤ) (rows row : ℕ) (bytes : List ℕ) (numbers : List X) (rest : List ℕ) : Type 0 where
  pub count : length numbers ≡ row
  pub left : length rest ≡ (rows - row) * byte_len (width_of kind)
  pub joined : flat_map (number_bytes kind) (map number numbers) ++ rest ≡ bytes
