-- Whether a scan begins, and over which rows: what is decided before anything is asked and any memory is taken.
use Rattle.std.specs.Prelude.{◌≡◌, ℕ, ◌+◌, ◌^◌, ◌≤◌, IsTrue, Option, Some, None, Result, Ok, Err}
use Rattle.std.specs.declared.ops.Range.{Range}
use Rattle.vx_expr.specs.Mentions.{uses_row_number}
use Rattle.vx_splits.specs.Taken.{selected_rows}
use Rattle.vx_drive.specs.declared.errors.ScanError.{ScanError}
use Rattle.vx_drive.specs.declared.errors.ScanError.TheVariants.{BadProjection, OffsetOverflow, OutOfRange}
use Rattle.vx_scan.specs.Answer.{FileScan, limited, row_count, scan_rows}
use Rattle.vx_scan.specs.Valid.{HasRows, IsBound, SelectsInside}

-- The row's number is used, and with the offset that of a row past the last one passes 2^64-1. All rows of the file
-- count, not only those of the scan.
abbrev pub Overflows : FileScan → Type 0
Overflows scan = IsTrue (uses_row_number scan.projection.expression.term) × (2 ^ 64 ≤ scan.projection.offset + row_count scan)

-- the given range, else all rows
abbrev pub range_or : Option (Range ℕ) → ℕ → Range ℕ
range_or None count = record { start = 0; end = count }
range_or (Some range) count = range

-- The projection is bound to the file's dtype, and the range isn't empty.
pub record HasWork (scan : FileScan) : Type 0 where
  pub bound : IsBound scan
  pub some : HasRows scan.range (row_count scan)

-- a selected row of the given range lies past the last row of the file
abbrev pub SelectsPast : FileScan → Type 0
SelectsPast scan = ¬ (SelectsInside scan.selection scan.range (row_count scan))

-- Why a scan is refused: its projection isn't bound to the file's dtype; else, where the range isn't empty, numbers
-- of rows could overflow; else a selected row of the given range lies past the last row.
abbrev pub Refuses : FileScan → ScanError → Type 0
Refuses scan BadProjection = ¬ (IsBound scan)
Refuses scan OffsetOverflow = HasWork scan × Overflows scan
Refuses scan OutOfRange = HasWork scan × (¬ (Overflows scan)) × SelectsPast scan
Refuses scan error = ⊥

-- It begins, and these are its rows: those of the range that are selected, cut after the first ones where a limit is
-- given.
pub record BeginsOver (scan : FileScan) (range : Range ℕ) : Type 0 where
  pub work : HasWork scan
  pub fits : ¬ (Overflows scan)
  pub inside : SelectsInside scan.selection scan.range (row_count scan)
  pub rows : limited scan.limit (selected_rows scan.selection range.start range.end) ≡ scan_rows scan
  pub below : range.end ≤ row_count scan

-- The range to scan, none where it is empty, or why the scan is refused.
abbrev pub Begins : FileScan → Result (Option (Range ℕ)) ScanError → Type 0
Begins scan (Ok None) = IsBound scan × ¬ (HasRows scan.range (row_count scan))
Begins scan (Ok (Some range)) = BeginsOver scan range
Begins scan (Err error) = Refuses scan error
