-- An expression over the rows of a column.
use Rattle.std.specs.Prelude.{◌≡◌, ℕ, pos, true, List, map, slice_get, take, Option, Some, None, is_some, option_map}
use Rattle.std.specs.List.{list_all}
use Rattle.vx_base.specs.Data.{DataType, Datum, number}
use Rattle.vx_base.specs.ValueViews.{data_in}
use Rattle.vx_expr.specs.Bound.{Bound}
use Rattle.vx_expr.specs.Meaning.{meaning, meanings_in}
use Rattle.vx_expr.specs.Terms.{Term, Terms}
pub use Rattle.vx_operators.specs.Rows.{along, front}

-- the number of a row, as a column of numbers has it
abbrev pub number_of_row : Datum → ℕ
number_of_row (number (pos n)) = n
number_of_row v = 0

-- the greatest number of 64 bits: where no other bound is told, each number is at most the bound
abbrev pub no_bound : ℕ
no_bound = 18446744073709551615

-- what the expression is worth at each row
abbrev pub at_rows : DataType → Term → List Datum → List ℕ → List (Option Datum)
at_rows t e values numbers = along (meaning t no_bound e) values numbers

-- what the expression is worth at the rows before the first fault
abbrev pub front_at : DataType → Term → List Datum → List ℕ → List Datum
front_at t e values numbers = front (at_rows t e values numbers)

-- the items that named expressions make of the rows before the first fault
abbrev pub items_made : DataType → Terms → Datum → ℕ → Option (List Datum)
items_made t es v n = option_map data_in (meanings_in t no_bound es v n)

-- what a bound expression is worth at each row of a column, with the rows' numbers in another
abbrev pub worth : Bound → List Datum → List Datum → List (Option Datum)
worth a values numbers = at_rows a.root a.term values (map number_of_row numbers)

-- what a bound expression that doesn't use the row's number is worth at each value
abbrev pub worth_of_each : Bound → List Datum → List (Option Datum)
worth_of_each a values = map (λ v. meaning a.root no_bound a.term v 0) values

-- the row is the first that is a fault
pub record IsFirstFault {A : Type 0} (rows : List (Option A)) (row : ℕ) : Type 0 where
  pub here : slice_get rows row ≡ Some None
  pub before : list_all is_some (take row rows) ≡ true
