-- Which bytes spell which values of a leaf dtype. A segment is the validity bits of a nullable leaf,
-- then the slots of all rows, and for texts the lengths of all rows before the texts.
use Rattle.std.specs.Prelude.{◌≡◌, ℕ, List, [], ◌++◌, length, map, Option, Some, None}
use Rattle.std.specs.List.{flat_map, AllByRecursion}
use Rattle.std.specs.Int.{w32, to_le_bytes}
use Rattle.vx_masks.specs.Bytes.{packed}
use Rattle.vx_types.specs.declared.dtypes.Nullability.{Nullability}
use Rattle.vx_types.specs.declared.dtypes.Nullability.TheVariants.{NonNullable, Nullable}
use Rattle.vx_types.specs.Data.{DataType, bool_type, int_type, utf8_type, struct_type, list_type, Datum}
use Rattle.vx_types.specs.Fits.{Fits, nullability_of}
use Rattle.vx_types.specs.Leaf.{slot_bytes}
use Rattle.vx_types.specs.Slots.{is_value, truth_in, number_in, text_in, number_bytes, IsShort}

-- which rows have a value, where the dtype takes nulls
abbrev pub validity_bytes : Nullability → List Datum → List ℕ
validity_bytes NonNullable values = []
validity_bytes Nullable values = packed (map is_value values)

-- the one spelling of the values; those of a struct or a list have none
abbrev pub spelling : DataType → List Datum → Option (List ℕ)
spelling (bool_type n) values = Some (validity_bytes n values ++ packed (map truth_in values))
spelling (int_type kind n) values = Some (validity_bytes n values ++ flat_map (λ v. number_bytes kind (number_in v)) values)
spelling (utf8_type n) values = Some ((validity_bytes n values ++ flat_map (λ v. to_le_bytes w32 (length (text_in v))) values) ++ flat_map text_in values)
spelling (struct_type ms n) values = None
spelling (list_type t n) values = None

-- the same bytes of a leaf in their two parts
abbrev pub plain_bytes : DataType → List Datum → List ℕ
plain_bytes t values = validity_bytes (nullability_of t) values ++ slot_bytes t values

-- The bytes spell these values: so many as there are rows, each of them fits, and these are their bytes.
pub record Spells (t : DataType) (rows : ℕ) (bytes : List ℕ) (values : List Datum) : Type 0 where
  pub count : length values ≡ rows
  pub fit : AllByRecursion (Fits t) values
  pub short : AllByRecursion IsShort values
  pub spelled : spelling t values ≡ Some bytes
