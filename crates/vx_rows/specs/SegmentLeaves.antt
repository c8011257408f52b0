-- The leaves of segments by their bytes: what the bytes spell.
use Rattle.std.specs.Prelude.{◌≡◌, ℕ, List, Option, None, option_and_then, IsSomeAnd}
use Rattle.vx_base.specs.CodingsRead.{decoded_as}
use Rattle.vx_rows.specs.Derivations.{Leaves}
use Rattle.vx_rows.specs.Reads.{Found, a_leaf_row, a_code, a_list_row}

-- the bytes of each segment, where it has any
abbrev pub Bytes : Type 0
Bytes = ℕ → Option (List ℕ)

-- the leaves of segments with these bytes: what the bytes spell in the coding of the leaf
abbrev pub leaves_of : Bytes → Leaves
leaves_of bytes dtype coding rows segment = option_and_then (decoded_as coding dtype rows) (bytes segment)

-- a leaf whose segment has no bytes
abbrev pub LacksBytes : Bytes → Found → Type 0
LacksBytes bytes (a_leaf_row at) = bytes at.segment ≡ None
LacksBytes bytes found = ⊥

-- a leaf whose segment has bytes that spell no values for it
abbrev pub IsTorn : Bytes → Found → Type 0
IsTorn bytes (a_leaf_row at) = IsSomeAnd (bytes at.segment) (λ found. decoded_as at.coding at.dtype at.rows found ≡ None)
IsTorn bytes found = ⊥

-- two families of bytes have the same for the segment of what was found
abbrev pub SameBytesFor : Bytes → Bytes → Found → Type 0
SameBytesFor ones others (a_leaf_row at) = ones at.segment ≡ others at.segment
SameBytesFor ones others (a_code at) = Unit {0}
SameBytesFor ones others (a_list_row list row) = Unit {0}
