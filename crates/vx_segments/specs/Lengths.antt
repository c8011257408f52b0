-- How many bytes the spelling of values has.
use Rattle.std.specs.Prelude.{◌≡◌, ℕ, ◌+◌, ◌*◌, ◌^◌, ◌<◌, Bool, true, false, List, length, Option, SomeIff}
use Rattle.std.specs.List.{flat_map}
use Rattle.std.specs.Int.{byte_len}
use Rattle.vx_types.specs.declared.dtypes.Nullability.{Nullability}
use Rattle.vx_types.specs.declared.dtypes.Nullability.TheVariants.{NonNullable, Nullable}
use Rattle.vx_types.specs.Data.{DataType, bool_type, int_type, utf8_type, struct_type, list_type, Datum}
use Rattle.vx_types.specs.Fits.{nullability_of}
use Rattle.vx_types.specs.Slots.{text_in, width_of}
use Rattle.vx_columns.specs.LaidRuns.{AreRunsOf}
use Rattle.vx_segments.specs.Codings.{SpellsAs}
use Rattle.vx_segments.specs.Reading.{packed_len}
use Rattle.vx_segments.specs.declared.codings.Coding.{Coding}

-- ---- the parts of a plain segment

abbrev pub validity_size : Nullability → ℕ → ℕ
validity_size NonNullable rows = 0
validity_size Nullable rows = packed_len rows

-- the slots of so many rows; of texts their lengths
abbrev pub slot_size : DataType → ℕ → ℕ
slot_size (bool_type n) rows = packed_len rows
slot_size (int_type kind n) rows = rows * byte_len (width_of kind)
slot_size (utf8_type n) rows = 4 * rows
slot_size (struct_type ms n) rows = 0
slot_size (list_type t n) rows = 0

-- what stands before the texts
abbrev pub front_size : DataType → ℕ → ℕ
front_size t rows = validity_size (nullability_of t) rows + slot_size t rows

abbrev pub are_texts : DataType → Bool
are_texts (utf8_type n) = true
are_texts t = false

-- the texts of all values
abbrev pub text_size : List Datum → ℕ
text_size values = length (flat_map text_in values)

-- the rows lie in so many runs, the texts of whose values have so many bytes, and those of all rows so many
pub record AreRunSizes (rows : List Datum) (runs once all : ℕ) : Type 0 where
  pub values : List Datum
  pub ends : List ℕ
  pub laid : AreRunsOf rows values ends
  pub count : runs ≡ length ends
  pub single : once ≡ text_size values
  pub each : all ≡ text_size rows

-- ---- a spelling in a coding

-- The values have a spelling in the coding, and this tells how many bytes it has, where 64 bits hold the number.
pub record HasLength (coding : Coding) (t : DataType) (values : List Datum) (len : Option ℕ) : Type 0 where
  pub bytes : List ℕ
  pub spelled : SpellsAs coding t (length values) bytes values
  pub counted : SomeIff len (length bytes < 2 ^ 64) (length bytes)
