-- The rows of a column, whatever way they are stored, as data.
use Rattle.vx_types.specs.Columns.{ColumnData}
use Rattle.vx_columns.specs.declared.stored_rows.Laid.{Laid}
use Rattle.vx_columns.specs.declared.stored_rows.Laid.TheVariants as laid
use Rattle.vx_columns.specs.declared.stored_rows.Rows.{Rows}
use Rattle.vx_columns.specs.declared.stored_rows.Rows.TheVariants as variants

abbrev pub row_data : Rows → ColumnData
row_data (variants.Plain array) = array
row_data (variants.Shared array) = array
row_data (variants.Runs runs) = runs

-- the same rows as they lie
abbrev pub laid_data : Laid → ColumnData
laid_data (laid.Packed array) = array.now
laid_data (laid.Runs runs) = runs.now
