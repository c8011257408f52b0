-- Which rows of a range a selection selects.
use Rattle.std.specs.Prelude.{◌≡◌, ℕ, ◌-◌, ◌<◌, ◌≤◌, ◌↔◌, min, Bool, true, not, List, length, take, Option, Some, None, slice_index_or}
use Rattle.std.specs.List.{Contains, filter, range_with_len}
use Rattle.std.specs.declared.ops.Range.{Range}
use Rattle.vx_base.specs.Masks.{is_among, Ascend}
use Rattle.vx_splits.specs.declared.selections.Selection.{Selection}
use Rattle.vx_splits.specs.declared.sorted_indices.SortError.{SortError}
use Rattle.vx_splits.specs.declared.sorted_indices.SortError.TheVariants.{NotSorted}
use Rattle.vx_splits.specs.declared.selections.Selection.TheVariants as variants

-- the rows from start on that lie before end, in order; none where the range is reversed
abbrev pub rows_between : ℕ → ℕ → List ℕ
rows_between start end = range_with_len start (end - start)

-- whether the selection selects a row
abbrev pub selects : Selection → ℕ → Bool
selects variants.All row = true
selects (variants.IncludeByIndex rows) row = is_among rows row
selects (variants.ExcludeByIndex rows) row = not (is_among rows row)

-- the rows between that the selection selects, in order
abbrev pub selected_rows : Selection → ℕ → ℕ → List ℕ
selected_rows selection start end = filter (selects selection) (rows_between start end)

-- The rows that a scan without a limit has: those of the range that the selection selects and that lie below the
-- row count. The range is the given one, else all rows.
abbrev pub taken_rows : Selection → Option (Range ℕ) → ℕ → List ℕ
taken_rows selection None row_count = selected_rows selection 0 row_count
taken_rows selection (Some range) row_count = selected_rows selection range.start (min range.end row_count)

-- a row of a range that is selected
abbrev pub IsSelected : Selection → ℕ → ℕ → ℕ → Type 0
IsSelected selection start end row = (start ≤ row) × (row < end) × (selects selection row ≡ true)

-- such a row: it is below the row count, it lies in the range, if one is given, and it is selected
abbrev pub IsTaken : Selection → Option (Range ℕ) → ℕ → ℕ → Type 0
IsTaken selection None row_count row = (row < row_count) × (selects selection row ≡ true)
IsTaken selection (Some range) row_count row = (row < row_count) × IsSelected selection range.start range.end row

-- These are the rows of which P holds, in order.
pub record AreRowsWith (P : ℕ → Type 0) (rows : List ℕ) : Type 0 where
  pub ascend : Ascend rows
  pub each : (row : ℕ) → Contains rows row ↔ P row

abbrev pub SelectsRows : Type 0
SelectsRows = (selection : Selection) (start end : ℕ) →
    AreRowsWith (IsSelected selection start end) (selected_rows selection start end)

abbrev pub TakesRows : Type 0
TakesRows = (selection : Selection) (range : Option (Range ℕ)) (row_count : ℕ) →
    AreRowsWith (IsTaken selection range row_count) (taken_rows selection range row_count)

-- The value at the place is the first that isn't greater than the one before it.
pub record IsFirstUnsorted (values : List ℕ) (place : ℕ) : Type 0 where
  pub behind_another : 0 < place
  pub within : place < length values
  pub not_greater : slice_index_or values place 0 ≤ slice_index_or values (place - 1) 0
  pub before : Ascend (take place values)

abbrev pub NotSortedAt : List ℕ → SortError → Type 0
NotSortedAt values (NotSorted place) = IsFirstUnsorted values place
