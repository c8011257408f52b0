-- Columns beside each other, row by row, and what packs make of them.
use Rattle.std.specs.Prelude.{◌≡◌, ℕ, ◌≤◌, List, [], ◌∷◌, length, replicate, take}
use Rattle.std.specs.List.{AllByRecursion}
use Rattle.vx_base.specs.Columns.{ColumnData}
use Rattle.vx_base.specs.Data.{DataType, struct_type, Members, no_members, member, Datum, structure}
use Rattle.vx_base.specs.Fits.{Fits}
use Rattle.vx_base.specs.ValueViews.{items_from}
use Rattle.vx_arrays.specs.Buffers.{bare}
use Rattle.vx_expr.specs.Rows.{along}

abbrev pub put_first : Datum → List Datum → List Datum
put_first v row = v ∷ row

-- the columns' values row by row, for as many rows as each of them has: that many where there is none
abbrev pub rows_along : ℕ → List (List Datum) → List (List Datum)
rows_along rows [] = replicate rows []
rows_along rows (column ∷ columns) = along put_first column (rows_along rows columns)

-- the struct of a row's values
abbrev pub struct_row : List Datum → Datum
struct_row row = structure (items_from row)

-- the dtype is that of structs of these members
abbrev pub IsStructOf : DataType → Members → Type 0
IsStructOf (struct_type ms n) others = ms ≡ others
IsStructOf t others = ⊥

-- each column has that many rows, and the first of them fit the member that it is of
abbrev pub FitEach : ℕ → Members → List (List Datum) → Type 0
FitEach rows no_members columns = Unit {0}
FitEach rows (member name t ms) [] = Unit {0}
FitEach rows (member name t ms) (column ∷ columns) = ((rows ≤ length column) × AllByRecursion (Fits t) (take rows column)) × FitEach rows ms columns

-- the first rows of each column, as an array of the dtype of the member that it is of
abbrev pub typed_columns : ℕ → Members → List (List Datum) → List ColumnData
typed_columns rows no_members columns = []
typed_columns rows (member name t ms) [] = []
typed_columns rows (member name t ms) (column ∷ columns) = record { dtype = bare t; values = take rows column } ∷ typed_columns rows ms columns
