-- How the rows of a column lie, as data.
use Rattle.std.specs.Prelude.{List}
use Rattle.vx_types.specs.Columns.{ColumnData}
use Rattle.vx_types.specs.Data.{Datum}
use Rattle.vx_columns.specs.declared.columns.ColumnParts.{ColumnParts}
use Rattle.vx_columns.specs.declared.columns.ColumnParts.TheVariants as parts
use Rattle.vx_columns.specs.RunRows.{AreRuns}
use Rattle.vx_columns.specs.Runs.{spread}

-- the value of each row
abbrev pub parts_values : ColumnParts → List Datum
parts_values (parts.Packed array) = array.now.values
parts_values (parts.Runs values ends) = spread 0 values.now.values ends.now

-- the values that lie there: one for each row, or one for each run
abbrev pub laid_values : ColumnParts → ColumnData
laid_values (parts.Packed array) = array.now
laid_values (parts.Runs values ends) = values.now

-- of runs there is an end for each value, above the one before it
abbrev pub AreGoodParts : ColumnParts → Type 0
AreGoodParts (parts.Packed array) = Unit {0}
AreGoodParts (parts.Runs values ends) = AreRuns values.now ends.now
