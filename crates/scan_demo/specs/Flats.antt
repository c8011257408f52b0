-- What the demo file stores: the columns of its rows in chunks, and the names that codes stand for.
use Rattle.std.specs.Prelude.{ℕ, ◌+◌, ◌-◌, ◌*◌, ◌%◌, min, if◌then◌else◌, List, ◌∷◌, ◌++◌, map}
use Rattle.std.specs.Int.{div_ceil}
use Rattle.std.specs.List.{range_with_len}
use Rattle.vx_base.specs.ColumnCalls.{natural}
use Rattle.vx_base.specs.Columns.{ColumnData}
use Rattle.vx_base.specs.Data.{DataType, bool_type, int_type, utf8_type, Datum, null, truth}
use Rattle.vx_base.specs.declared.dtypes.IntKind.TheVariants.{U8, I64}
use Rattle.vx_base.specs.declared.dtypes.Nullability.TheVariants.{NonNullable, Nullable}
use Rattle.scan_demo.specs.declared.stored_columns.StoredColumn.{StoredColumn}
use Rattle.scan_demo.specs.declared.stored_columns.StoredColumn.TheVariants.{Ids, Codes, Flags}
use Rattle.scan_demo.specs.DemoRows.{id_of, lacks_name, name_at, is_flagged}

-- a chunk has no more rows
abbrev pub chunk_limit : ℕ
chunk_limit = 8192

abbrev pub chunk_count : ℕ → ℕ
chunk_count number = div_ceil number chunk_limit

-- the rows of the chunk of a place; the last one may be smaller
abbrev pub chunk_rows : ℕ → ℕ → List ℕ
chunk_rows number place = range_with_len (place * chunk_limit) (min number (place * chunk_limit + chunk_limit) - place * chunk_limit)

-- ---- the columns that lie in chunks

abbrev pub column_type : StoredColumn → DataType
column_type Ids = int_type I64 NonNullable
column_type Codes = int_type U8 Nullable
column_type Flags = bool_type NonNullable

abbrev pub code_of : ℕ → Datum
code_of row = if lacks_name row then null else natural (row % 16)

-- what a column stores for a row
abbrev pub stored_value : StoredColumn → ℕ → ℕ → Datum
stored_value Ids number row = natural (id_of number row)
stored_value Codes number row = code_of row
stored_value Flags number row = truth (is_flagged row)

abbrev pub chunk_flat : StoredColumn → ℕ → ℕ → ColumnData
chunk_flat column number place = record { dtype = column_type column; values = map (stored_value column number) (chunk_rows number place) }

-- the chunks of a column, in order
abbrev pub chunk_flats : StoredColumn → ℕ → List ColumnData
chunk_flats column number = map (chunk_flat column number) (range_with_len 0 (chunk_count number))

-- ---- all that is stored

-- the names that the codes stand for
abbrev pub name_flat : ColumnData
name_flat = record { dtype = utf8_type NonNullable; values = map name_at (range_with_len 0 16) }

-- in the order of the file
abbrev pub demo_flats : ℕ → List ColumnData
demo_flats number = chunk_flats Ids number ++ name_flat ∷ (chunk_flats Codes number ++ chunk_flats Flags number)
