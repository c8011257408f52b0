-- Rows of a segment: those of a range of what its bytes spell, all of them or those that a mask chooses.
use Rattle.std.specs.Prelude.{◌≡◌, ℕ, Bool, List, Option, option_map, slice_range}
use Rattle.vx_masks.specs.Masks.{chosen}
use Rattle.vx_types.specs.Data.{DataType, Datum}
use Rattle.vx_segments.specs.Codings.{SpellsAs}
use Rattle.vx_segments.specs.CodingsRead.{decoded_as}
use Rattle.vx_segments.specs.declared.codings.Coding.{Coding}

-- The bytes spell values in the coding, and these are the rows of a range of them.
pub record SpellsRows (coding : Coding) (t : DataType) (rows : ℕ) (bytes : List ℕ) (from to : ℕ) (values : List Datum) : Type 0 where
  pub all : List Datum
  pub spelled : SpellsAs coding t rows bytes all
  pub picked : values ≡ slice_range all from to

-- The same of the rows of the range that a mask chooses.
pub record SpellsChosen (coding : Coding) (t : DataType) (rows : ℕ) (bytes : List ℕ) (from to : ℕ) (bits : List Bool) (values : List Datum) : Type 0 where
  pub all : List Datum
  pub spelled : SpellsAs coding t rows bytes all
  pub picked : values ≡ chosen bits (slice_range all from to)

-- the rows of a range of the values that the bytes spell in the coding, where they spell any
abbrev pub rows_decoded : Coding → DataType → ℕ → List ℕ → ℕ → ℕ → Option (List Datum)
rows_decoded coding t rows bytes from to = option_map (λ values. slice_range values from to) (decoded_as coding t rows bytes)

-- those of them that a mask chooses
abbrev pub chosen_decoded : Coding → DataType → ℕ → List ℕ → ℕ → ℕ → List Bool → Option (List Datum)
chosen_decoded coding t rows bytes from to bits = option_map (λ values. chosen bits (slice_range values from to)) (decoded_as coding t rows bytes)
