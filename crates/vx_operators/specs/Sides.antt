-- What stands at each row of a side of an operator.
use Rattle.std.specs.Prelude.{◌≡◌, ℤ, pos, Bool, true, false, List, length, map, replicate}
use Rattle.vx_types.specs.Data.{Datum, number}
use Rattle.vx_types.specs.Slots.{where_valid}
use Rattle.vx_operators.specs.declared.sides.Side.{Side}
use Rattle.vx_operators.specs.declared.sides.Side.TheVariants.{Rows, One, Null}
use Rattle.vx_operators.specs.declared.valid_rows.Valid.{Valid}
use Rattle.vx_operators.specs.declared.valid_rows.Valid.TheVariants.{Where, Everywhere, Nowhere}

-- which rows have a value
abbrev pub valid_rows : Valid → List Bool
valid_rows (Where valid) = valid.now
valid_rows (Everywhere rows) = replicate rows true
valid_rows (Nowhere rows) = replicate rows false

-- which rows have a number
abbrev pub side_valid : {X : Type 0} → Side X → List Bool
side_valid (Rows valid numbers) = valid.now
side_valid (One z rows) = replicate rows true
side_valid (Null rows) = replicate rows false

-- what all rows hold
abbrev pub side_numbers : {X : Type 0} → (X → ℤ) → Side X → List ℤ
side_numbers seen (Rows valid numbers) = map seen numbers.now
side_numbers seen (One z rows) = replicate rows (seen z)
side_numbers seen (Null rows) = replicate rows (pos 0)

-- the value of each row
abbrev pub side_rows : {X : Type 0} → (X → ℤ) → Side X → List Datum
side_rows seen side = where_valid (side_valid side) (map number (side_numbers seen side))

-- each row of a column is valid or not
abbrev pub IsSide : {X : Type 0} → Side X → Type 0
IsSide (Rows valid numbers) = length valid.now ≡ length numbers.now
IsSide (One z rows) = Unit {0}
IsSide (Null rows) = Unit {0}
