-- What a rule makes of a range.
use Rattle.std.specs.Prelude.{◌≡◌, ℕ, Bool, ◌+◌, ◌-◌, ◌*◌, ◌<◌, ◌⊎◌, List, [], ◌∷◌, ◌++◌, map, length, slice_get, Some, Result, Ok, Err}
use Rattle.std.specs.Global.{Vec}
use Rattle.std.specs.Int.{div_ceil}
use Rattle.std.specs.List.{range_with_len}
use Rattle.vx_base.specs.Masks.{Ascend}
use Rattle.vx_splits.specs.Spans.{subdivided}
use Rattle.vx_split_rules.specs.declared.errors.SplitError.{SplitError}
use Rattle.vx_split_rules.specs.declared.errors.SplitError.TheVariants.{ZeroSize, OutOfRange, Memory}
use Rattle.vx_split_rules.specs.declared.split_rules.SplitBy.{SplitBy}
use Rattle.vx_split_rules.specs.declared.split_rules.SplitBy.TheVariants.{Layout, LayoutSubSplitting, RowCount}
use Rattle.vx_split_rules.specs.Splits.{registered, AreOrdered, SplitRows}

-- what a reader tells of its rows, from the root's first row on: where its chunks end, whether it pushes where an empty
-- range ends, and how many rows it has
pub record ReaderSplits : Type 0 where
  pub ends : List ℕ
  pub ends_empty : Bool
  pub rows : ℕ

abbrev pub root_range : ℕ → ℕ → SplitRows
root_range start end = record { offset = 0; start = start; end = end }

-- a rule of no rows
abbrev pub IsZeroSize : SplitBy → Type 0
IsZeroSize Layout = ⊥
IsZeroSize (LayoutSubSplitting max_rows) = max_rows ≡ 0
IsZeroSize (RowCount rows) = rows ≡ 0

-- the range is reversed or ends past the rows, and the rule is one of layouts
abbrev pub IsOutside : ℕ → ℕ → ℕ → Type 0
IsOutside rows start end = (end < start) ⊎ (rows < end)

abbrev pub IsOutOfRange : SplitBy → ℕ → ℕ → ℕ → Type 0
IsOutOfRange Layout rows start end = IsOutside rows start end
IsOutOfRange (LayoutSubSplitting max_rows) rows start end = IsOutside rows start end
IsOutOfRange (RowCount count) rows start end = ⊥

-- the start, and what the reader pushes, in order and each once
abbrev pub AreLayoutSplits : ReaderSplits → ℕ → ℕ → List ℕ → Type 0
AreLayoutSplits reader start end splits = AreOrdered (start ∷ registered reader.ends reader.ends_empty (root_range start end)) splits

-- The boundaries of a layout, or why there are none.
abbrev pub LayoutGives : ReaderSplits → ℕ → ℕ → Result (Vec ℕ) SplitError → Type 0
LayoutGives reader start end (Ok splits) = (IsOutside reader.rows start end → ⊥) × AreLayoutSplits reader start end splits.items
LayoutGives reader start end (Err ZeroSize) = ⊥
LayoutGives reader start end (Err OutOfRange) = IsOutside reader.rows start end
LayoutGives reader start end (Err Memory) = IsOutside reader.rows start end → ⊥

-- the first row of each so many, and the end
abbrev pub counted : ℕ → ℕ → ℕ → List ℕ
counted size start end = map (λ part. start + part * size) (range_with_len 0 (div_ceil (end - start) size)) ++ end ∷ []

abbrev pub IsSplitBy : SplitBy → ReaderSplits → ℕ → ℕ → List ℕ → Type 0
IsSplitBy Layout reader start end splits = AreLayoutSplits reader start end splits
IsSplitBy (LayoutSubSplitting max_rows) reader start end splits =
    (boundaries : List ℕ) × AreLayoutSplits reader start end boundaries × (splits ≡ subdivided max_rows boundaries)
IsSplitBy (RowCount size) reader start end splits = splits ≡ counted size start end

-- of a range that is not empty: it begins with the start, ends with the end, and ascends
pub record Spans (start end : ℕ) (splits : List ℕ) : Type 0 where
  pub first : slice_get splits 0 ≡ Some start
  pub last : slice_get splits (length splits - 1) ≡ Some end
  pub ascend : Ascend splits

-- The splits of a range, or why there are none: a size of none comes before a range that is not one of the rows.
abbrev pub SplitsGive : SplitBy → ReaderSplits → ℕ → ℕ → Result (Vec ℕ) SplitError → Type 0
SplitsGive rule reader start end (Ok splits) = (IsZeroSize rule → ⊥) × (IsOutOfRange rule reader.rows start end → ⊥) × IsSplitBy rule reader start end splits.items
SplitsGive rule reader start end (Err ZeroSize) = IsZeroSize rule
SplitsGive rule reader start end (Err OutOfRange) = (IsZeroSize rule → ⊥) × IsOutOfRange rule reader.rows start end
SplitsGive rule reader start end (Err Memory) = (IsZeroSize rule → ⊥) × (IsOutOfRange rule reader.rows start end → ⊥)
