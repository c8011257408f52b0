-- Reading rows of a range: what an evaluation of them says of all rows; and columns one after another, one for each split.
use Rattle.std.proofs.Common.{◌≡◌, ℕ, zero, suc, ◌+◌, ◌-◌, ◌<◌, ◌≤◌, ◌⊎◌, inl, inr, Bool, true, List, [], ◌∷◌, ◌++◌, Option, Some, None, Result, Ok, Err, length, drop, replicate, get_or, refl, sym, ap, ◌∙◌, subst, arith, append_assoc, append-nil}
use Rattle.std.specs.Prelude.{IsSomeAnd}
use Rattle.std.specs.Global.{Vec}
use Rattle.std.specs.List.{slice_get, AllByRecursion}
use Rattle.std.proofs.lemmas.Bool.{cases_lt}
use Rattle.std.proofs.lemmas.List.{length-drop, length-replicate}
use Rattle.std.proofs.lemmas.Option.{get_or_from_slice_get, slice_get_within, slice_get-get_or}
use Rattle.vx_base.specs.declared.locations.AskedRange.{AskedRange}
use Rattle.vx_base.specs.Columns.{ColumnData}
use Rattle.vx_base.specs.Data.{DataType}
use Rattle.vx_base.specs.Masks.{true_count}
use Rattle.vx_base.specs.Sources.{range_of, SourceState}
use Rattle.vx_expr.specs.Bound.{Bound}
use Rattle.vx_expr.specs.Terms.{Term}
use Rattle.vx_layout.specs.Trees.{subtree}
use Rattle.vx_picking.specs.Rows.{rows_of, AreOf}
use Rattle.vx_picking.proofs.SelectedRows.{drop_at, rows_all}
use Rattle.vx_rows.specs.Reads.{directly, reads_of, Finds, IsIn}
use Rattle.vx_rows.specs.SegmentLeaves.{Bytes}
use Rattle.vx_reads.specs.declared.errors.ReaderError.{ReaderError}
use Rattle.vx_reads.specs.declared.errors.ReaderError.TheVariants.{ReadFault, BadSegment, BadCode, EvalFault, NoLocation, Memory}
use Rattle.vx_reads.specs.Computed.{HasCause, RangeFinds, RowsBy}
use Rattle.vx_reads.specs.Needed.{needed}
use Rattle.vx_reads.specs.Projected.{ProjectionCause}
use Rattle.vx_reads.specs.Readable.{tree_head}
use Rattle.vx_reads.specs.Reads.{file_bytes, AsksOnly, IsRangeOf}
use Rattle.vx_reads.proofs.Computing.{cause_up, FindsUp}
use Rattle.vx_reads.proofs.ByKind.{count_all}
use Rattle.vx_reads.proofs.Reaching.{needed_reached}
use Rattle.vx_readers.specs.declared.layout_readers.Reader.{Reader}
use Rattle.vx_readers.specs.declared.reading.ReadRowsError.{ReadRowsError}
use Rattle.vx_readers.specs.declared.reading.ReadRowsError.TheVariants as errors
use Rattle.vx_readers.specs.Begun.{BeginsOver}
use Rattle.vx_readers.specs.Evaluations.{needed_by, rows_by, Evaluation, WhereTold}
use Rattle.vx_readers.specs.ReaderData.{reader_head, ReaderData}
use Rattle.vx_readers.specs.Readers.{reader_data}
use Rattle.vx_readers.specs.Reading.{Ends, Leaves, ReadsRange}
use Rattle.vx_readers.specs.States.{IsProjection, ProjectionFault}
use Rattle.vx_readers.specs.WholeReads.{reader_rows, told_row, told_splits, AreSplitColumns, AreWithin, BetweenEnds, IsReached, IsSplitColumn, IsToldFault, ReadsBetween, ReadsOnly, ReadsRows, ReadsSplit, RowsEnd, RowsFault, SplitEnds}
use Rattle.vx_readers.proofs.RowsRead.{none_between}
use Rattle.vx_split_rules.specs.declared.split_rules.SplitBy.{SplitBy}
use Rattle.vx_split_rules.specs.Rules.{IsSplitBy, IsZeroSize, Spans}
use Rattle.vx_splits.proofs.Runs.{apart_at}

-- ---- rows of a range are rows of the reader

widened : (r : RowsBy) (start count rows : ℕ) → start + count ≤ rows → FindsUp r start count r 0 rows
widened r start count rows inside P finds =
    let e : 0 + (start + finds.0) ≡ start + finds.0 = omega arith in
    (start + finds.0, omega (arith, finds.1), subst (λ (k : ℕ). Finds P (reads_of directly (r k))) (sym e) finds.2)

all_true_at : (count place : ℕ) → place < count → slice_get (replicate count true) place ≡ Some true
all_true_at zero place lt = absurd (omega arith)
all_true_at (suc count) zero lt = refl
all_true_at (suc count) (suc place) lt = all_true_at count place (omega arith)

cause_widened : (fault : ReaderError) (bytes : Bytes) (r : RowsBy) (t : DataType) (e : Term) (start count rows : ℕ) → start + count ≤ rows → ProjectionCause bytes r t e start (replicate count true) fault → ProjectionCause bytes r t e 0 (replicate rows true) fault
cause_widened fault bytes r t e start count rows inside cause = by fault cause
  where
    raised : (fault : ReaderError) → HasCause bytes r start (length (replicate count true)) fault → HasCause bytes r 0 (length (replicate rows true)) fault
    raised fault has =
        let few : length (replicate count true) ≡ count = length-replicate count true in
        let many : length (replicate rows true) ≡ rows = length-replicate rows true in
        cause_up bytes r start (length (replicate count true)) r 0 (length (replicate rows true)) (widened r start (length (replicate count true)) (length (replicate rows true)) (omega arith)) fault has

    by : (fault : ReaderError) → ProjectionCause bytes r t e start (replicate count true) fault → ProjectionCause bytes r t e 0 (replicate rows true) fault
    by (EvalFault row) has =
        let few : length (replicate count true) ≡ count = length-replicate count true in
        let place : has.0 < length (replicate count true) = slice_get_within (replicate count true) has.0 true has.1 in
        let named : start + has.0 ≡ row = has.2 in
        (row, all_true_at rows row (omega arith), omega arith, has.3)
    by ReadFault has = raised ReadFault has
    by (BadSegment segment) has = raised (BadSegment segment) has
    by (BadCode node row) has = raised (BadCode node row) has
    by (NoLocation segment) has = raised (NoLocation segment) has
    by Memory has = raised Memory has

-- ---- what is asked for

all_up : (P Q : AskedRange → Type 0) → ((range : AskedRange) → P range → Q range) → (ranges : List AskedRange) → AllByRecursion P ranges → AllByRecursion Q ranges
all_up P Q up [] all = tt
all_up P Q up (range ∷ ranges) all = (up range all.0, all_up P Q up ranges all.1)

asks_up : (P Q : AskedRange → Type 0) → ((range : AskedRange) → P range → Q range) → (old new : Option (List AskedRange)) → AsksOnly P old new → AsksOnly Q old new
asks_up P Q up None new asks = tt
asks_up P Q up (Some ranges) new asks = (asks.0, asks.1, all_up P Q up asks.0 asks.2)

needed_finds : (r : ReaderData) (start : ℕ) (bits : List Bool) (segment place : ℕ) → start + length bits ≤ (reader_head r).rows → slice_get (needed (subtree r.nodes r.node) start bits) place ≡ Some segment → RangeFinds (IsIn segment) (reader_rows r) 0 (reader_head r).rows
needed_finds r start bits segment place inside at =
    widened (reader_rows r) start (length bits) (reader_head r).rows inside (IsIn segment) (needed_reached (subtree r.nodes r.node) start bits segment place at)

range_reached : (r : ReaderData) (start : ℕ) (bits : List Bool) → start + length bits ≤ (reader_head r).rows → (range : AskedRange) → IsRangeOf r.locations (needed (subtree r.nodes r.node) start bits) range → IsReached r range
range_reached r start bits inside range is = by (slice_get (needed (subtree r.nodes r.node) start bits) is.0) refl is.1
  where
    by : (o : Option ℕ) → slice_get (needed (subtree r.nodes r.node) start bits) is.0 ≡ o → IsSomeAnd o (λ segment. IsSomeAnd (slice_get r.locations segment) (λ at. range_of at ≡ range)) → IsReached r range
    by None at some = absurd some
    by (Some segment) at some = (segment, some, needed_finds r start bits segment is.0 inside at)

leaves_only : (r : ReaderData) (start : ℕ) (bits : List Bool) (b : Bound) (e : Evaluation) (before after : SourceState) → BeginsOver needed_by r start bits b e → start + length bits ≤ (reader_head r).rows → Leaves e before after → ReadsOnly r before after
leaves_only r start bits b e before after begun inside leaves =
    let P : Evaluation → Type 0 = λ n. AsksOnly (IsRangeOf n.locations (needed_by n)) before.asked after.asked in
    let asks : AsksOnly (IsRangeOf e.locations (needed_by e)) before.asked after.asked = subst (λ (segments : List ℕ). AsksOnly (IsRangeOf e.locations segments) before.asked after.asked) begun.begins.segments leaves.asks in
    record {
      file = leaves.file;
      asks = asks_up (IsRangeOf r.locations (needed (subtree r.nodes r.node) start bits)) (IsReached r) (range_reached r start bits inside) before.asked after.asked (subst P begun.is asks);
      in_flight = inr leaves.in_flight;
      faults = leaves.faults;
      idle = leaves.idle;
    }

-- ---- one split

split_fault : (error : ReaderError) (limit : ℕ) (r : ReaderData) (start count : ℕ) (b : Bound) (e : Evaluation) (before after : SourceState) → BeginsOver needed_by r start (replicate count true) b e → start + count ≤ (reader_head r).rows → Ends limit (Err (errors.Reader error)) e before after → RowsFault r b error before after
split_fault error limit r start count b e before after begun inside ends = by error ends
  where
    told : (fault : ReaderError) → WhereTold e before (ProjectionFault e fault) → IsToldFault r b fault before
    told fault h file is =
        let P : Evaluation → Type 0 = λ n. ProjectionCause (file_bytes file n.locations) (rows_by n) (tree_head n.nodes n.node).dtype n.expression.term n.start n.mask fault in
        cause_widened fault (file_bytes file r.locations) (reader_rows r) (reader_head r).dtype b.term start count (reader_head r).rows inside
        (subst P begun.is (h file is (begun.begins.bytes (file_bytes file e.locations))))

    by : (fault : ReaderError) → Ends limit (Err (errors.Reader fault)) e before after → RowsFault r b fault before after
    by ReadFault h = h
    by (NoLocation segment) h =
        let few : length (replicate count true) ≡ count = length-replicate count true in
        let P : Evaluation → Type 0 = λ n. (slice_get (needed_by n) h.0 ≡ Some segment) × (slice_get n.locations segment ≡ None) in
        let there : P e = (subst (λ (segments : List ℕ). slice_get segments h.0 ≡ Some segment) begun.begins.segments h.1, h.2) in
        let here = subst P begun.is there in
        (needed_finds r start (replicate count true) segment h.0 (omega arith) here.0, here.1)
    by (BadSegment segment) h = told (BadSegment segment) h
    by (BadCode node row) h = told (BadCode node row) h
    by (EvalFault row) h = told (EvalFault row) h
    by Memory h = h

split_column : (r : ReaderData) (start end : ℕ) (b : Bound) (e : Evaluation) (column : ColumnData) (before : SourceState) → BeginsOver needed_by r start (replicate (end - start) true) b e → WhereTold e before (IsProjection e column.values) → column.dtype ≡ e.expression.dtype → length column.values ≡ true_count e.mask → IsSplitColumn r b before start end column
split_column r start end b e column before begun told typed counted = (
  typed ∙ ap (λ (n : Evaluation). n.expression.dtype) begun.is,
  counted ∙ ap (λ (n : Evaluation). true_count n.mask) begun.is ∙ count_all (end - start),
  λ file is.
      (let P : Evaluation → Type 0 = λ n. IsProjection n column.values (file_bytes file n.locations) in
      let here : AreOf (told_row r b file) (rows_of start (replicate (end - start) true)) column.values = subst P begun.is (told file is (begun.begins.bytes (file_bytes file e.locations))) in
      subst (λ (rows : List ℕ). AreOf (told_row r b file) rows column.values) (rows_all start (end - start)) here),
)

pub split_read : (limit : ℕ) (result : Result ColumnData ReadRowsError) (r : ReaderData) (start end : ℕ) (b : Bound) (mask : List Bool) (e : Evaluation) (before after : SourceState) → mask ≡ replicate (end - start) true → start ≤ end → end ≤ (reader_head r).rows → BeginsOver needed_by r start mask b e → ReadsRange limit result e before after → ReadsSplit limit result r b start end before after
split_read limit result r start end b mask e before after whole forwards inside begun reads =
    let few : length (replicate (end - start) true) ≡ end - start = length-replicate (end - start) true in
    let over : BeginsOver needed_by r start (replicate (end - start) true) b e = subst (λ (bits : List Bool). BeginsOver needed_by r start bits b e) whole begun in
    record {
      reads = leaves_only r start (replicate (end - start) true) b e before after over (omega arith) reads.leaves;
      ends = by result over reads.ends;
    }
  where
    by : (result : Result ColumnData ReadRowsError) → BeginsOver needed_by r start (replicate (end - start) true) b e → Ends limit result e before after → SplitEnds limit result r b start end before after
    by (Ok column) over h = split_column r start end b e column before over h.0 h.1 h.2
    by (Err (errors.Reader error)) over h = split_fault error limit r start (end - start) b e before after over (omega arith) h
    by (Err errors.Stalled) over h = h
    by (Err errors.ZeroSize) over h = h
    by (Err errors.Memory) over h = h

-- ---- one after another

-- the columns of the splits so far, with those of the splits that are left behind them
abbrev pub Gathers : (ℕ → ℕ → ColumnData → Type 0) → List ℕ → ℕ → List ColumnData → Type 0
Gathers P splits place columns = (rest : List ColumnData) → AreSplitColumns P (drop (place - 1) splits) rest → AreSplitColumns P splits (columns ++ rest)

pub gathers_first : (P : ℕ → ℕ → ColumnData → Type 0) (splits : List ℕ) → Gathers P splits 1 []
gathers_first P splits = λ rest are. are

pub gathers_more : (P : ℕ → ℕ → ColumnData → Type 0) (splits : List ℕ) (place : ℕ) (columns new : List ColumnData) (column : ColumnData) → 1 ≤ place → place < length splits → P (get_or splits (place - 1) 0) (get_or splits place 0) column → new ≡ columns ++ column ∷ [] → Gathers P splits place columns → Gathers P splits (place + 1) new
gathers_more P splits place columns new column some inside is pushed gathers = λ rest are.
    (let s : ℕ = get_or splits (place - 1) 0 in
    let t : ℕ = get_or splits place 0 in
    let same : place + 1 - 1 ≡ place = omega arith in
    let next : place - 1 + 1 ≡ place = omega arith in
    let later : drop place splits ≡ t ∷ drop (place + 1) splits = drop_at splits place t (slice_get-get_or splits place 0 inside) in
    let here : drop (place - 1) splits ≡ s ∷ drop place splits = drop_at splits (place - 1) s (slice_get-get_or splits (place - 1) 0 (omega arith)) ∙ ap (λ (k : ℕ). s ∷ drop k splits) next in
    let left : AreSplitColumns P (t ∷ drop (place + 1) splits) rest = subst (λ (xs : List ℕ). AreSplitColumns P xs rest) (ap (λ (k : ℕ). drop k splits) same ∙ later) are in
    let all : AreSplitColumns P splits (columns ++ column ∷ rest) = gathers (column ∷ rest) (subst (λ (xs : List ℕ). AreSplitColumns P xs (column ∷ rest)) (sym (here ∙ ap (λ (xs : List ℕ). s ∷ xs) later)) (is, left)) in
    subst (AreSplitColumns P splits) (sym (ap (λ (cs : List ColumnData). cs ++ rest) pushed ∙ append_assoc columns (column ∷ []) rest)) all)

pub gathers_all : (P : ℕ → ℕ → ColumnData → Type 0) (splits : List ℕ) (place : ℕ) (columns : List ColumnData) → 1 ≤ place → length splits ≤ place → Gathers P splits place columns → AreSplitColumns P splits columns
gathers_all P splits place columns some past gathers =
    let few : length (drop (place - 1) splits) ≤ 1 = omega (arith, length-drop (place - 1) splits) in
    subst (AreSplitColumns P splits) (append-nil columns) (gathers [] (none_between P (drop (place - 1) splits) few))

-- ---- the splits lie in the rows

pub splits_between : (rows : ℕ) (splits : List ℕ) → (0 < rows → Spans 0 rows splits) → (rows ≤ 0 → splits ≡ rows ∷ []) → AreWithin rows splits
splits_between rows splits spans alone place some inside = by (cases_lt 0 rows)
  where
    by : (0 < rows) ⊎ (rows ≤ 0) → (get_or splits (place - 1) 0 ≤ get_or splits place 0) × (get_or splits place 0 ≤ rows)
    by (inl more) =
        let h = spans more in
        let next : place - 1 + 1 ≡ place = omega arith in
        let up : get_or splits (place - 1) 0 < get_or splits (place - 1 + 1) 0 = h.ascend (place - 1) 0 (omega arith) in
        let here : get_or splits (place - 1 + 1) 0 ≡ get_or splits place 0 = ap (λ (k : ℕ). get_or splits k 0) next in
        let last : get_or splits (length splits - 1) 0 ≡ rows = get_or_from_slice_get splits (length splits - 1) rows 0 h.last in
        let far : get_or splits place 0 + (length splits - 1 - place) ≤ get_or splits (length splits - 1) 0 = apart_at splits place (length splits - 1) h.ascend (omega arith) (omega arith) in
        (omega arith, omega arith)
    by (inr none) =
        let one : length splits ≡ 1 = ap length (alone none) in
        absurd (omega arith)

pub splits_start : (rows : ℕ) (splits : List ℕ) → (0 < rows → Spans 0 rows splits) → (rows ≤ 0 → splits ≡ rows ∷ []) → get_or splits 0 0 ≡ 0
splits_start rows splits spans alone = by (cases_lt 0 rows)
  where
    by : (0 < rows) ⊎ (rows ≤ 0) → get_or splits 0 0 ≡ 0
    by (inl more) = let h = spans more in get_or_from_slice_get splits 0 0 0 h.first
    by (inr none) =
        let one : get_or splits 0 0 ≡ rows = ap (λ (ns : List ℕ). get_or ns 0 0) (alone none) in
        omega arith

-- ---- what is read between the splits, or is not

pub not_between : (limit : ℕ) (error : ReadRowsError) (r : ReaderData) (e : Bound) (start end : ℕ) (splits : List ℕ) (before after : SourceState) → SplitEnds limit (Err error) r e start end before after → BetweenEnds limit (Err error) r e splits before after
not_between limit (errors.Reader error) r e start end splits before after ends = ends
not_between limit errors.Stalled r e start end splits before after ends = ends
not_between limit errors.ZeroSize r e start end splits before after ends = ends
not_between limit errors.Memory r e start end splits before after ends = ends

rows_end : (limit : ℕ) (rule : SplitBy) (result : Result (Vec ColumnData) ReadRowsError) (reader : Reader) (e : Bound) (splits : List ℕ) (before after : SourceState) → (IsZeroSize rule → ⊥) → IsSplitBy rule (told_splits reader) 0 (reader_head (reader_data reader)).rows splits
    → BetweenEnds limit result (reader_data reader) e splits before after → RowsEnd limit rule result reader e before after
rows_end limit rule (Ok columns) reader e splits before after some by ends = (some, (splits, by, ends))
rows_end limit rule (Err (errors.Reader error)) reader e splits before after some by ends = ends
rows_end limit rule (Err errors.Stalled) reader e splits before after some by ends = ends
rows_end limit rule (Err errors.ZeroSize) reader e splits before after some by ends = absurd ends
rows_end limit rule (Err errors.Memory) reader e splits before after some by ends = some

pub rows_read : (limit : ℕ) (rule : SplitBy) (result : Result (Vec ColumnData) ReadRowsError) (reader : Reader) (e : Bound) (splits : List ℕ) (before after : SourceState) → (IsZeroSize rule → ⊥) → IsSplitBy rule (told_splits reader) 0 (reader_head (reader_data reader)).rows splits
    → ReadsBetween limit result (reader_data reader) e splits before after → ReadsRows limit rule result reader e before after
rows_read limit rule result reader e splits before after some by between = record { reads = between.reads; ends = rows_end limit rule result reader e splits before after some by between.ends }
