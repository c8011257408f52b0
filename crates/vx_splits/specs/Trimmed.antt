-- A scope of rows trimmed to what a selection selects of it.
use Rattle.std.specs.Prelude.{◌≡◌, ℕ, ◌+◌, ◌-◌, ◌<◌, ◌≤◌, Bool, true, false, not, cond, List, [], length, map, Option, Some, None, slice_get, slice_index_or}
use Rattle.vx_base.specs.Masks.{chosen, is_among}
use Rattle.std.specs.declared.ops.Range.{Range}
use Rattle.vx_splits.specs.declared.selections.Selection.{Selection}
use Rattle.vx_splits.specs.declared.selected_rows.WorkScope.{WorkScope}
use Rattle.vx_splits.specs.declared.selected_rows.SelectedRows.{SelectedRows}
use Rattle.vx_splits.specs.Taken.{rows_between, selects, selected_rows}

-- a truth value for each of the rows between: whether it is selected
abbrev pub selection_mask : Selection → ℕ → ℕ → List Bool
selection_mask selection start end = map (selects selection) (rows_between start end)

-- the rows that the mask chooses of the scope
abbrev pub chosen_rows : SelectedRows → List ℕ
chosen_rows chunk = chosen chunk.mask (rows_between chunk.scope.rows.start chunk.scope.rows.end)

-- the rows of a chunk, if there is one
abbrev pub rows_in_chunk : Option SelectedRows → List ℕ
rows_in_chunk None = []
rows_in_chunk (Some chunk) = chosen_rows chunk

-- The scope cut down to its first and last selected row, with a truth value for each row that is left.
pub record IsTrimmed (selection : Selection) (scope : WorkScope) (chunk : SelectedRows) : Type 0 where
  pub file : chunk.scope.file_ordinal ≡ scope.file_ordinal
  pub starts : scope.rows.start ≤ chunk.scope.rows.start
  pub ends : chunk.scope.rows.end ≤ scope.rows.end
  pub mask : chunk.mask ≡ selection_mask selection chunk.scope.rows.start chunk.scope.rows.end
  pub keeps : chosen_rows chunk ≡ selected_rows selection scope.rows.start scope.rows.end
  pub begins_with_true : slice_get chunk.mask 0 ≡ Some true
  pub ends_with_true : slice_get chunk.mask (length chunk.mask - 1) ≡ Some true

-- the range between the first and the last selected row, both of them in it
pub record IsTrimmedRange (selection : Selection) (start end : ℕ) (rows : Range ℕ) : Type 0 where
  pub starts : start ≤ rows.start
  pub some : rows.start < rows.end
  pub ends : rows.end ≤ end
  pub first : selects selection rows.start ≡ true
  pub last : selects selection (rows.end - 1) ≡ true
  pub keeps : selected_rows selection rows.start rows.end ≡ selected_rows selection start end

-- the mark where it is so, and the other truth value elsewhere
abbrev pub marked_as : Bool → Bool → Bool
marked_as mark holds = cond mark holds (not holds)

-- every row of this range is one of these
abbrev pub AllAmong : List ℕ → ℕ → ℕ → Type 0
AllAmong indices start end = (row : ℕ) → start ≤ row → row < end → is_among indices row ≡ true

-- the range from the first to the last of the indices
pub record IsSpan (indices : List ℕ) (rows : Range ℕ) : Type 0 where
  pub some : 0 < length indices
  pub first : rows.start ≡ slice_index_or indices 0 0
  pub last : rows.end ≡ slice_index_or indices (length indices - 1) 0 + 1

-- the range from the first to the last row between that isn't one of the excluded rows
pub record IsLeft (excluded : List ℕ) (start end : ℕ) (rows : Range ℕ) : Type 0 where
  pub starts : start ≤ rows.start
  pub some : rows.start < rows.end
  pub ends : rows.end ≤ end
  pub first : is_among excluded rows.start ≡ false
  pub last : is_among excluded (rows.end - 1) ≡ false
  pub before : AllAmong excluded start rows.start
  pub after : AllAmong excluded rows.end end

-- The row before the place lies less than the bound above its own place, and the row at the place does not.
pub record IsPartedAt (rows : List ℕ) (bound place : ℕ) : Type 0 where
  pub inside : place ≤ length rows
  pub near : 0 < place → slice_index_or rows (place - 1) 0 < bound + (place - 1)
  pub far : place < length rows → bound + place ≤ slice_index_or rows place 0
