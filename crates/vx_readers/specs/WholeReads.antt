-- What reading all rows of a reader gives, split by split.
use Rattle.std.specs.Prelude.{◌≡◌, ℕ, ◌-◌, ◌<◌, ◌≤◌, ◌⊎◌, List, [], ◌∷◌, length, get_or, slice_range, true, replicate, Option, Some, None, IsSomeAnd, Result, Ok, Err}
use Rattle.std.specs.Global.{Vec}
use Rattle.std.specs.List.{range_with_len, slice_get}
use Rattle.vx_base.specs.declared.locations.AskedRange.{AskedRange}
use Rattle.vx_base.specs.Columns.{ColumnData}
use Rattle.vx_base.specs.Data.{Datum}
use Rattle.vx_base.specs.Sources.{range_of, Rose, RoseBy, SourceState}
use Rattle.vx_expr.specs.Bound.{Bound}
use Rattle.vx_layout.specs.Kept.{all}
use Rattle.vx_layout.specs.Rows.{derivation}
use Rattle.vx_layout.specs.Trees.{subtree}
use Rattle.vx_picking.specs.Rows.{AreOf}
use Rattle.vx_rows.specs.Reads.{IsIn}
use Rattle.vx_reads.specs.declared.errors.ReaderError.{ReaderError}
use Rattle.vx_reads.specs.declared.errors.ReaderError.TheVariants.{ReadFault, BadSegment, BadCode, EvalFault, NoLocation}
use Rattle.vx_reads.specs.declared.errors.ReaderError.TheVariants as faults
use Rattle.vx_reads.specs.Computed.{RangeFinds, RowsBy}
use Rattle.vx_reads.specs.Projected.{row_meaning, ProjectionCause}
use Rattle.vx_reads.specs.Reads.{file_bytes, AsksOnly}
use Rattle.vx_readers.specs.declared.layout_readers.Reader.{Reader}
use Rattle.vx_readers.specs.declared.reading.ReadRowsError.{ReadRowsError}
use Rattle.vx_readers.specs.declared.reading.ReadRowsError.TheVariants as errors
use Rattle.vx_readers.specs.ChunkEnds.{reader_ends}
use Rattle.vx_readers.specs.ReaderData.{reader_head, ReaderData}
use Rattle.vx_readers.specs.Readers.{pushes_empty, reader_data}
use Rattle.vx_split_rules.specs.declared.split_rules.SplitBy.{SplitBy}
use Rattle.vx_split_rules.specs.Rules.{IsSplitBy, IsZeroSize, ReaderSplits}

-- how each row of the reader's node is derived
abbrev pub reader_rows : ReaderData → RowsBy
reader_rows r = derivation (subtree r.nodes r.node) all

-- what the expression is worth at a row, by the file
abbrev pub told_row : ReaderData → Bound → List ℕ → ℕ → Option Datum
told_row r e file = row_meaning (file_bytes file r.locations) (reader_rows r) (reader_head r).dtype e.term

-- ---- what is done to the source

-- the range is the location of a segment that some row of the reader reads
abbrev pub IsReached : ReaderData → AskedRange → Type 0
IsReached r range =
    (segment : ℕ) × IsSomeAnd (slice_get r.locations segment) (λ at. range_of at ≡ range) × RangeFinds (IsIn segment) (reader_rows r) 0 (reader_head r).rows

-- Only such ranges are asked for; where the source was used nothing is left in flight; the file stays, and the counts never
-- fall.
pub record ReadsOnly (r : ReaderData) (before after : SourceState) : Type 0 where
  pub file : after.file ≡ before.file
  pub asks : AsksOnly (IsReached r) before.asked after.asked
  pub in_flight : (after ≡ before) ⊎ (after.in_flight ≡ [])
  pub faults : before.faults ≤ after.faults
  pub idle : before.idle ≤ after.idle

-- ---- why there is no answer

-- where the file is told, some row reads what the fault names, or the expression is a fault at that row
abbrev pub IsToldFault : ReaderData → Bound → ReaderError → SourceState → Type 0
IsToldFault r e error before =
    (file : List ℕ) → before.file ≡ Some file → ProjectionCause (file_bytes file r.locations) (reader_rows r) (reader_head r).dtype e.term 0 (replicate (reader_head r).rows true) error

abbrev pub RowsFault : ReaderData → Bound → ReaderError → SourceState → SourceState → Type 0
RowsFault r e ReadFault before after = Rose before.faults after.faults
RowsFault r e (NoLocation segment) before after = RangeFinds (IsIn segment) (reader_rows r) 0 (reader_head r).rows × (slice_get r.locations segment ≡ None)
RowsFault r e (BadSegment segment) before after = IsToldFault r e (BadSegment segment) before
RowsFault r e (BadCode node row) before after = IsToldFault r e (BadCode node row) before
RowsFault r e (EvalFault row) before after = IsToldFault r e (EvalFault row) before
RowsFault r e faults.Memory before after = ⊥

-- ---- one split

-- the column has a row for each of these rows, and is what the expression is worth at them
abbrev pub IsSplitColumn : ReaderData → Bound → SourceState → ℕ → ℕ → ColumnData → Type 0
IsSplitColumn r e before start end column =
    (column.dtype ≡ e.dtype) × (length column.values ≡ end - start) × ((file : List ℕ) → before.file ≡ Some file → AreOf (told_row r e file) (range_with_len start (end - start)) column.values)

abbrev pub SplitEnds : ℕ → Result ColumnData ReadRowsError → ReaderData → Bound → ℕ → ℕ → SourceState → SourceState → Type 0
SplitEnds limit (Ok column) r e start end before after = IsSplitColumn r e before start end column
SplitEnds limit (Err (errors.Reader error)) r e start end before after = RowsFault r e error before after
SplitEnds limit (Err errors.Stalled) r e start end before after = RoseBy limit before.idle after.idle
SplitEnds limit (Err errors.ZeroSize) r e start end before after = ⊥
SplitEnds limit (Err errors.Memory) r e start end before after = Unit {0}

pub record ReadsSplit (limit : ℕ) (result : Result ColumnData ReadRowsError) (r : ReaderData) (e : Bound) (start end : ℕ) (before after : SourceState) : Type 0 where
  pub reads : ReadsOnly r before after
  pub ends : SplitEnds limit result r e start end before after

-- ---- all of them

-- one column for each split, with P of its rows: from where it starts to where the next one does
abbrev pub AreSplitColumns : (ℕ → ℕ → ColumnData → Type 0) → List ℕ → List ColumnData → Type 0
AreSplitColumns P [] [] = Unit {0}
AreSplitColumns P [] (column ∷ columns) = ⊥
AreSplitColumns P (last ∷ []) [] = Unit {0}
AreSplitColumns P (last ∷ []) (column ∷ columns) = ⊥
AreSplitColumns P (start ∷ end ∷ splits) [] = ⊥
AreSplitColumns P (start ∷ end ∷ splits) (column ∷ columns) = P start end column × AreSplitColumns P (end ∷ splits) columns

-- each two neighbours are forwards, and inside so many rows
abbrev pub AreWithin : ℕ → List ℕ → Type 0
AreWithin rows splits = (place : ℕ) → 1 ≤ place → place < length splits → (get_or splits (place - 1) 0 ≤ get_or splits place 0) × (get_or splits place 0 ≤ rows)

-- A column for each two neighbours of the splits, or why there are none.
abbrev pub BetweenEnds : ℕ → Result (Vec ColumnData) ReadRowsError → ReaderData → Bound → List ℕ → SourceState → SourceState → Type 0
BetweenEnds limit (Ok columns) r e splits before after = AreSplitColumns (IsSplitColumn r e before) splits columns.items
BetweenEnds limit (Err (errors.Reader error)) r e splits before after = RowsFault r e error before after
BetweenEnds limit (Err errors.Stalled) r e splits before after = RoseBy limit before.idle after.idle
BetweenEnds limit (Err errors.ZeroSize) r e splits before after = ⊥
BetweenEnds limit (Err errors.Memory) r e splits before after = Unit {0}

pub record ReadsBetween (limit : ℕ) (result : Result (Vec ColumnData) ReadRowsError) (r : ReaderData) (e : Bound) (splits : List ℕ) (before after : SourceState) : Type 0 where
  pub reads : ReadsOnly r before after
  pub ends : BetweenEnds limit result r e splits before after

-- the part is the rows of the whole column from the one to the other
abbrev pub IsPartOf : ColumnData → ℕ → ℕ → ColumnData → Type 0
IsPartOf whole start end part = (start ≤ end) × (end ≤ length whole.values) × (part.dtype ≡ whole.dtype) × (part.values ≡ slice_range whole.values start end)

-- what a reader tells of its rows
abbrev pub told_splits : Reader → ReaderSplits
told_splits reader = record { ends = reader_ends (reader_data reader) 0; ends_empty = pushes_empty reader; rows = (reader_head (reader_data reader)).rows }

abbrev pub RowsEnd : ℕ → SplitBy → Result (Vec ColumnData) ReadRowsError → Reader → Bound → SourceState → SourceState → Type 0
RowsEnd limit rule (Ok columns) reader e before after =
    (IsZeroSize rule → ⊥) × ((splits : List ℕ) × IsSplitBy rule (told_splits reader) 0 (reader_head (reader_data reader)).rows splits × AreSplitColumns (IsSplitColumn (reader_data reader) e before) splits columns.items)
RowsEnd limit rule (Err (errors.Reader error)) reader e before after = RowsFault (reader_data reader) e error before after
RowsEnd limit rule (Err errors.Stalled) reader e before after = RoseBy limit before.idle after.idle
RowsEnd limit rule (Err errors.ZeroSize) reader e before after = IsZeroSize rule
RowsEnd limit rule (Err errors.Memory) reader e before after = IsZeroSize rule → ⊥

pub record ReadsRows (limit : ℕ) (rule : SplitBy) (result : Result (Vec ColumnData) ReadRowsError) (reader : Reader) (e : Bound) (before after : SourceState) : Type 0 where
  pub reads : ReadsOnly (reader_data reader) before after
  pub ends : RowsEnd limit rule result reader e before after
