-- Ranges of rows that included indices are gathered into.
use Rattle.std.specs.Prelude.{ℕ, ◌+◌, ◌-◌, ◌^◌, ◌<◌, ◌≤◌, nat_le, nat_lt, if◌then◌else◌, List, [], ◌∷◌, length, Option, Some, None, option_map}
use Rattle.std.specs.List.{All, Any, AllAdjacentBelow}
use Rattle.std.specs.declared.ops.Range.{Range}
use Rattle.vx_splits.specs.declared.selections.Selection.{Selection}
use Rattle.vx_splits.specs.declared.selections.Selection.TheVariants as variants
use Rattle.vx_splits.specs.Limits.{range_rows_limit, least_gap}
use Rattle.vx_splits.specs.Taken.{selected_rows}

abbrev pub range_of : ℕ → ℕ → Range ℕ
range_of start end = record { start = start; end = end }

-- The ranges of an open one and the indices behind it. An index extends the open range while that keeps few
-- enough rows; else it opens a range of its own where it lies far enough behind the open one; else there is no
-- answer.
abbrev pub gathered : ℕ → ℕ → List ℕ → Option (List (Range ℕ))
gathered start end [] = Some (range_of start end ∷ [])
gathered start end (index ∷ indices) =
    if nat_lt (index + 1 - start) range_rows_limit then gathered start (index + 1) indices
    else if nat_le least_gap (index + 1 - end)
    then option_map (λ ranges. range_of start end ∷ ranges) (gathered index (index + 1) indices)
    else None

-- the ranges that ascending indices are gathered into: the first index opens one
abbrev pub gathered_ranges : List ℕ → Option (List (Range ℕ))
gathered_ranges [] = Some []
gathered_ranges (index ∷ indices) = gathered index (index + 1) indices

-- the answer for a range that isn't empty: only included indices are gathered
abbrev pub split_ranges_within : Selection → ℕ → ℕ → Option (List (Range ℕ))
split_ranges_within variants.All start end = None
split_ranges_within (variants.IncludeByIndex rows) start end = gathered_ranges (selected_rows (variants.IncludeByIndex rows) start end)
split_ranges_within (variants.ExcludeByIndex rows) start end = None

-- The selected rows of the given range, else of 0..2^64-1. It is no abbrev: a list of all rows is never to be
-- computed.
unfoldable pub rows_to_cover : Selection → Option (Range ℕ) → List ℕ
rows_to_cover selection None = selected_rows selection 0 (2 ^ 64 - 1)
rows_to_cover selection (Some range) = selected_rows selection range.start range.end

-- the answer for a given range, else for 0..2^64-1
abbrev pub split_ranges : Selection → Option (Range ℕ) → Option (List (Range ℕ))
split_ranges selection None = split_ranges_within selection 0 (2 ^ 64 - 1)
split_ranges selection (Some range) = if nat_lt range.start range.end then split_ranges_within selection range.start range.end else Some []

-- the row lies in one of the ranges
abbrev pub IsCovered : List (Range ℕ) → ℕ → Type 0
IsCovered ranges row = Any (λ range. (range.start ≤ row) × (row < range.end)) ranges

-- The ranges ascend and are disjoint, each lies far enough behind the one before it, none is empty, each has few
-- enough rows, and together they cover the rows.
pub record AreSplitRanges (rows : List ℕ) (ranges : List (Range ℕ)) : Type 0 where
  pub ascend : AllAdjacentBelow (λ one two. one.end ≤ two.start) ranges (length ranges)
  pub apart : AllAdjacentBelow (λ one two. least_gap ≤ two.start + 1 - one.end) ranges (length ranges)
  pub small : All (λ range. (range.start < range.end) × (range.end - range.start < range_rows_limit)) ranges
  pub cover : All (IsCovered ranges) rows
