-- Which dtypes have segments of their own, and what their rows have there.
use Rattle.std.specs.Prelude.{ℕ, List, [], ◌++◌, length, map}
use Rattle.std.specs.List.{flat_map}
use Rattle.std.specs.Int.{w32, to_le_bytes}
use Rattle.vx_types.specs.declared.dtypes.IntKind.{IntKind}
use Rattle.vx_types.specs.Data.{DataType, bool_type, int_type, utf8_type, struct_type, list_type, Datum}
use Rattle.vx_types.specs.Slots.{truth_in, number_in, text_in, number_bytes}
use Rattle.vx_masks.specs.Bytes.{packed}

-- truth values, numbers or texts
abbrev pub IsLeaf : DataType → Type 0
IsLeaf (bool_type n) = Unit {0}
IsLeaf (int_type kind n) = Unit {0}
IsLeaf (utf8_type n) = Unit {0}
IsLeaf (struct_type ms n) = ⊥
IsLeaf (list_type t n) = ⊥

-- what a row has where numbers stand, and where lengths do
abbrev pub number_slot : IntKind → Datum → List ℕ
number_slot kind v = number_bytes kind (number_in v)

abbrev pub length_slot : Datum → List ℕ
length_slot v = to_le_bytes w32 (length (text_in v))

-- what all rows have behind the validity
abbrev pub slot_bytes : DataType → List Datum → List ℕ
slot_bytes (bool_type n) values = packed (map truth_in values)
slot_bytes (int_type kind n) values = flat_map (number_slot kind) values
slot_bytes (utf8_type n) values = flat_map length_slot values ++ flat_map text_in values
slot_bytes (struct_type ms n) values = []
slot_bytes (list_type t n) values = []
