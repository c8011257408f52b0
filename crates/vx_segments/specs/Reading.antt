-- Reading a segment: the values that the bytes spell, where they spell any. Each part is read as it
-- comes, and what was read counts where its spelling is these very bytes.
use Rattle.std.specs.Prelude.{ℕ, zero, suc, ◌+◌, ◌*◌, ◌/◌, ℤ, pos, int_le, Bool, true, false, ◌&&◌, ◌==◌, nat_lt, if◌then◌else◌, List, [], ◌∷◌, length, map, take, drop, replicate, Option, Some, None}
use Rattle.std.specs.List.{flat_map, list_all}
use Rattle.std.specs.Int.{w32, byte_len, bit_at, cast_signed, from_le_bytes}
use Rattle.std.specs.Str.{is_utf8, bytes_eq}
use Rattle.vx_types.specs.declared.dtypes.IntKind.{IntKind}
use Rattle.vx_types.specs.declared.dtypes.IntKind.TheVariants.{U8, U16, U32, U64, I8, I16, I32, I64}
use Rattle.vx_types.specs.declared.dtypes.Nullability.{Nullability}
use Rattle.vx_types.specs.declared.dtypes.Nullability.TheVariants.{NonNullable, Nullable}
use Rattle.vx_types.specs.Data.{DataType, bool_type, int_type, utf8_type, struct_type, list_type, Datum, null, truth, number, text}
use Rattle.vx_types.specs.Fits.{least_of, greatest_of, takes_null}
use Rattle.vx_types.specs.Limits.{text_limit}
use Rattle.vx_types.specs.Slots.{text_in, width_of, where_valid}
use Rattle.vx_arrays.specs.Texts.{ends_after}
use Rattle.vx_segments.specs.Segment.{spelling}

abbrev pub is_signed : IntKind → Bool
is_signed U8 = false
is_signed U16 = false
is_signed U32 = false
is_signed U64 = false
is_signed I8 = true
is_signed I16 = true
is_signed I32 = true
is_signed I64 = true

-- ---- the parts

-- the bits of a byte, lowest first
abbrev pub bits_of : ℕ → List Bool
bits_of b = map (λ i. bit_at b i == 1) (0 ∷ 1 ∷ 2 ∷ 3 ∷ 4 ∷ 5 ∷ 6 ∷ 7 ∷ [])

-- how many bytes hold a bit for each row
abbrev pub packed_len : ℕ → ℕ
packed_len rows = (rows + 7) / 8

abbrev pub bits_read : ℕ → List ℕ → List Bool
bits_read rows bytes = take rows (flat_map bits_of bytes)

abbrev pub number_of : IntKind → List ℕ → ℤ
number_of kind bytes = if is_signed kind then cast_signed (width_of kind) (from_le_bytes (width_of kind) bytes) else pos (from_le_bytes (width_of kind) bytes)

unfoldable pub numbers_read : IntKind → ℕ → List ℕ → List ℤ
numbers_read kind zero bytes = []
numbers_read kind (suc rows) bytes = number_of kind (take (byte_len (width_of kind)) bytes) ∷ numbers_read kind rows (drop (byte_len (width_of kind)) bytes)

unfoldable pub lengths_read : ℕ → List ℕ → List ℕ
lengths_read zero bytes = []
lengths_read (suc rows) bytes = from_le_bytes w32 (take 4 bytes) ∷ lengths_read rows (drop 4 bytes)

-- where the texts end whose lengths the bytes spell
abbrev pub ends_read : ℕ → List ℕ → List ℕ
ends_read rows bytes = ends_after 0 (lengths_read rows bytes)

unfoldable pub texts_read : List ℕ → List ℕ → List (List ℕ)
texts_read [] bytes = []
texts_read (len ∷ lens) bytes = take len bytes ∷ texts_read lens (drop len bytes)

-- ---- a leaf

-- which rows have a value
abbrev pub validity_read : Nullability → ℕ → List ℕ → List Bool
validity_read NonNullable rows bytes = replicate rows true
validity_read Nullable rows bytes = bits_read rows (take (packed_len rows) bytes)

-- the bytes behind the validity
abbrev pub slots : Nullability → ℕ → List ℕ → List ℕ
slots NonNullable rows bytes = bytes
slots Nullable rows bytes = drop (packed_len rows) bytes

abbrev pub slots_read : DataType → ℕ → List ℕ → List Datum
slots_read (bool_type n) rows bytes = map truth (bits_read rows bytes)
slots_read (int_type kind n) rows bytes = map number (numbers_read kind rows bytes)
slots_read (utf8_type n) rows bytes = map text (texts_read (lengths_read rows bytes) (drop (4 * rows) bytes))
slots_read (struct_type ms n) rows bytes = []
slots_read (list_type t n) rows bytes = []

abbrev pub leaf_read : DataType → Nullability → ℕ → List ℕ → List Datum
leaf_read t n rows bytes = where_valid (validity_read n rows bytes) (slots_read t rows (slots n rows bytes))

-- ---- what counts

-- `Fits` of a leaf dtype, as a test
abbrev pub fits_leaf : DataType → Datum → Bool
fits_leaf (bool_type n) null = takes_null n
fits_leaf (bool_type n) (truth b) = true
fits_leaf (int_type kind n) null = takes_null n
fits_leaf (int_type kind n) (number z) = int_le (least_of kind) z && int_le z (greatest_of kind)
fits_leaf (utf8_type n) null = takes_null n
fits_leaf (utf8_type n) (text bytes) = is_utf8 bytes
fits_leaf t v = false

abbrev pub spelled_as : Option (List ℕ) → List ℕ → Bool
spelled_as None bytes = false
spelled_as (Some spelt) bytes = bytes_eq spelt bytes

-- `Spells`, as a test
abbrev pub is_spelled : DataType → ℕ → List ℕ → List Datum → Bool
is_spelled t rows bytes values = (length values == rows) && list_all (fits_leaf t) values && list_all (λ v. nat_lt (length (text_in v)) text_limit) values && spelled_as (spelling t values) bytes

abbrev pub if_spelled : DataType → ℕ → List ℕ → List Datum → Option (List Datum)
if_spelled t rows bytes values = if is_spelled t rows bytes values then Some values else None

-- the values that the bytes spell for the dtype and so many rows
unfoldable pub decoded : DataType → ℕ → List ℕ → Option (List Datum)
decoded (bool_type n) rows bytes = if_spelled (bool_type n) rows bytes (leaf_read (bool_type n) n rows bytes)
decoded (int_type kind n) rows bytes = if_spelled (int_type kind n) rows bytes (leaf_read (int_type kind n) n rows bytes)
decoded (utf8_type n) rows bytes = if_spelled (utf8_type n) rows bytes (leaf_read (utf8_type n) n rows bytes)
decoded (struct_type ms n) rows bytes = None
decoded (list_type t n) rows bytes = None
