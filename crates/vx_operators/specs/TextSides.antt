-- What stands at each row of a side of an operator on texts.
use Rattle.std.specs.Prelude.{◌≡◌, ℕ, Bool, true, false, List, [], length, map, replicate}
use Rattle.vx_types.specs.Data.{Datum, text}
use Rattle.vx_types.specs.Slots.{where_valid}
use Rattle.vx_operators.specs.declared.text_sides.TextSide.{TextSide}
use Rattle.vx_operators.specs.declared.text_sides.TextSide.TheVariants.{Rows, One, Null}

-- which rows have a text
abbrev pub text_valid : TextSide → List Bool
text_valid (Rows valid texts) = valid.now
text_valid (One t rows) = replicate rows true
text_valid (Null rows) = replicate rows false

-- what all rows hold
abbrev pub side_texts : TextSide → List (List ℕ)
side_texts (Rows valid texts) = texts.now
side_texts (One t rows) = replicate rows t.now
side_texts (Null rows) = replicate rows []

-- the value of each row
abbrev pub text_rows : TextSide → List Datum
text_rows side = where_valid (text_valid side) (map text (side_texts side))

-- each row of a column is valid or not
abbrev pub IsTextSide : TextSide → Type 0
IsTextSide (Rows valid texts) = length valid.now ≡ length texts.now
IsTextSide (One t rows) = Unit {0}
IsTextSide (Null rows) = Unit {0}
