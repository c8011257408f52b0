-- Packed columns as data.
use Rattle.std.specs.Prelude.{◌≡◌}
use Rattle.std.specs.List.{AllByRecursion}
use Rattle.vx_types.specs.Data.{DataType}
use Rattle.vx_types.specs.Columns.{ColumnData}
use Rattle.vx_types.specs.Fits.{Fits}
use Rattle.vx_arrays.specs.Buffers.{bare}

-- a dtype, and rows that it takes
pub record IsColumn (t : DataType) (rows : ColumnData) : Type 0 where
  pub shape : bare t ≡ rows.dtype
  pub fit : AllByRecursion (Fits t) rows.values

-- the rows alone
abbrev pub bare_column : ColumnData → ColumnData
bare_column column = record { dtype = bare column.dtype; values = column.values }
