-- The parts of a segment as they are read.
use Rattle.std.specs.Prelude.{◌≡◌, ℕ, ◌/◌, ◌%◌, ◌^◌, ◌<◌, Bool, true, List, [], length, replicate, slice_index_or}
use Rattle.vx_types.specs.declared.dtypes.Nullability.{Nullability}
use Rattle.vx_types.specs.declared.dtypes.Nullability.TheVariants.{NonNullable, Nullable}
use Rattle.vx_segments.specs.Reading.{bits_read, packed_len}

-- the bits past the last row are 0
abbrev pub IsPadded : ℕ → List ℕ → Type 0
IsPadded rows bytes = slice_index_or bytes (rows / 8) 0 < 2 ^ (rows % 8)

-- bits of so many rows, and nothing more
abbrev pub AreBits : ℕ → List ℕ → Type 0
AreBits rows bytes = (length bytes ≡ packed_len rows) × IsPadded rows bytes

-- the validity of so many rows
abbrev pub IsValidity : Nullability → ℕ → List ℕ → Type 0
IsValidity NonNullable rows bytes = bytes ≡ []
IsValidity Nullable rows bytes = AreBits rows bytes

-- which rows have a value
abbrev pub valid_bits : Nullability → ℕ → List ℕ → List Bool
valid_bits NonNullable rows bytes = replicate rows true
valid_bits Nullable rows bytes = bits_read rows bytes
