-- What each row has in a slot of its own, whether it has a value or not.
use Rattle.std.specs.Prelude.{ℕ, ◌<◌, ℤ, pos, Bool, true, false, if◌then◌else◌, List, [], ◌∷◌, length}
use Rattle.std.specs.Int.{Width, w8, w16, w32, w64, cast_unsigned, to_le_bytes}
use Rattle.vx_types.specs.declared.dtypes.IntKind.{IntKind}
use Rattle.vx_types.specs.declared.dtypes.IntKind.TheVariants.{U8, U16, U32, U64, I8, I16, I32, I64}
use Rattle.vx_types.specs.Data.{Datum, null, truth, number, text, structure}
use Rattle.vx_types.specs.Limits.{text_limit}

-- What a row has in each part of the bytes. A null has false, 0 or the empty text, so `truth_in` also says
-- whether a value is true.
abbrev pub is_value : Datum → Bool
is_value null = false
is_value (truth b) = true
is_value (number z) = true
is_value (text bytes) = true
is_value (structure values) = true

abbrev pub truth_in : Datum → Bool
truth_in (truth b) = b
truth_in v = false

abbrev pub number_in : Datum → ℤ
number_in (number z) = z
number_in v = pos 0

abbrev pub text_in : Datum → List ℕ
text_in (text bytes) = bytes
text_in v = []

abbrev pub width_of : IntKind → Width
width_of U8 = w8
width_of U16 = w16
width_of U32 = w32
width_of U64 = w64
width_of I8 = w8
width_of I16 = w16
width_of I32 = w32
width_of I64 = w64

-- little-endian, two's complement where the kind is signed
abbrev pub number_bytes : IntKind → ℤ → List ℕ
number_bytes kind z = to_le_bytes (width_of kind) (cast_unsigned (width_of kind) z)

-- the length of a text has four bytes
abbrev pub IsShort : Datum → Type 0
IsShort v = length (text_in v) < text_limit

-- the slots' values, and null where a row has none
abbrev pub where_valid : List Bool → List Datum → List Datum
where_valid [] values = []
where_valid (valid ∷ more) [] = []
where_valid (valid ∷ more) (v ∷ vs) = (if valid then v else null) ∷ where_valid more vs
