-- What is read is the answer of a scan of all rows.
use Rattle.std.proofs.Common.{◌≡◌, ℕ, suc, ◌+◌, ◌-◌, ◌<◌, ◌≤◌, ◌⊎◌, inl, inr, Bool, true, false, List, [], ◌∷◌, ◌++◌, Option, Some, None, Ok, length, map, refl, sym, ap, ◌∙◌, subst, arith}
use Rattle.std.specs.Prelude.{if◌then◌else◌, option_and_then}
use Rattle.std.specs.Global.{Vec}
use Rattle.std.specs.List.{filter, flat_map, range_with_len, slice_get}
use Rattle.std.proofs.lemmas.Bool.{cases_lt}
use Rattle.std.proofs.lemmas.List.{map-append}
use Rattle.vx_base.specs.Columns.{ColumnData}
use Rattle.vx_base.specs.Data.{Datum, null}
use Rattle.vx_base.specs.Masks.{Ascend}
use Rattle.vx_base.specs.Sources.{SourceState}
use Rattle.vx_chunks.specs.Lent.{AllTell}
use Rattle.vx_expr.specs.Bound.{Bound}
use Rattle.vx_expr.specs.Meaning.{meaning}
use Rattle.vx_expr.specs.Mentions.{uses_root, uses_row_number}
use Rattle.vx_expr.specs.Rows.{no_bound}
use Rattle.vx_expr.proofs.AnyRow.{worth_at_any_row}
use Rattle.vx_layout.specs.Kept.{all}
use Rattle.vx_layout.specs.Rows.{derivation, file_leaves, value}
use Rattle.vx_layout.specs.Sound.{IsSound}
use Rattle.vx_layout.specs.Trees.{Tree, head_of, subtree}
use Rattle.vx_layout.proofs.Joined.{range_split}
use Rattle.vx_layout.proofs.Ruled.{good_sound}
use Rattle.vx_lower.specs.Projected.{kept_of, projected_at, Projection}
use Rattle.vx_lower.proofs.RowIndexed.{worth_at_any_root}
use Rattle.vx_picking.specs.Rows.{AreOf}
use Rattle.vx_picking.proofs.SelectedRows.{then_rows}
use Rattle.vx_readers.specs.declared.layout_readers.Reader.{Reader}
use Rattle.vx_readers.specs.ReaderData.{reader_head, IsReader, ReaderData}
use Rattle.vx_readers.specs.Readers.{reader_data}
use Rattle.vx_readers.specs.WholeReads.{told_row, told_splits, AreSplitColumns, IsSplitColumn, ReadsRows}
use Rattle.vx_rows.specs.Derivations.{derived, Leaves}
use Rattle.vx_base.specs.declared.locations.SegmentLocation.{SegmentLocation}
use Rattle.vx_scan.specs.Answer.{limited, row_count, scan_rows, size_of, FileScan, IsAnswer}
use Rattle.vx_scan.specs.Scanned.{AnswersScan}
use Rattle.vx_scan.specs.Laws.{PiecesAnswer}
use Rattle.vx_split_rules.specs.declared.split_rules.SplitBy.{SplitBy}
use Rattle.vx_split_rules.specs.declared.split_rules.SplitBy.TheVariants.{Layout, LayoutSubSplitting, RowCount}
use Rattle.vx_split_rules.specs.Rules.{IsOutOfRange, Spans}
use Rattle.vx_split_rules.proofs.Spanned.{splits_alone, splits_span}
use Rattle.vx_splits.specs.declared.selections.Selection.TheVariants as selections
use Rattle.vx_splits.specs.Taken.{selects, taken_rows}
use Rattle.vx_agreement.specs.Agreement.{joined, AreOneAnswer, IsOfAllRows}
use Rattle.vx_agreement.proofs.KeptTrees.{kept_alike}
use Rattle.vx_agreement.proofs.SameFields.{kept_meaning}

-- ---- one row

-- what the projection is worth at a row is what its expression is over the row's value
worth_row : (uses : Bool) (leaves : Leaves) (p : Projection) (row : ℕ) (w : Datum) → uses_root p.expression.term ≡ uses → uses_row_number p.expression.term ≡ false → value leaves p.root (kept_of p) row ≡ Some w →
    option_and_then (λ u. meaning (head_of p.root).dtype no_bound p.expression.term u (p.offset + row)) (if uses then value leaves p.root (kept_of p) row else Some null) ≡ meaning (head_of p.root).dtype no_bound p.expression.term w 0
worth_row true leaves p row w used unnumbered here =
    ap (option_and_then (λ (u : Datum). meaning (head_of p.root).dtype no_bound p.expression.term u (p.offset + row))) here
    ∙ worth_at_any_row (head_of p.root).dtype p.expression.term no_bound w (p.offset + row) 0 unnumbered
worth_row false leaves p row w used unnumbered here =
    worth_at_any_row (head_of p.root).dtype p.expression.term no_bound null (p.offset + row) 0 unnumbered
    ∙ worth_at_any_root (head_of p.root).dtype (head_of p.root).dtype p.expression.term no_bound null w 0 used

-- the same where all of the row is read
pub worth_told : (r : ReaderData) (p : Projection) (file : List ℕ) (row : ℕ) (w : Datum) → IsSound (subtree r.nodes r.node) → p.root ≡ subtree r.nodes r.node → uses_row_number p.expression.term ≡ false → derived (file_leaves file r.locations) (derivation p.root all row) ≡ Some w → projected_at (file_leaves file r.locations) p row ≡ meaning (head_of p.root).dtype no_bound p.expression.term w 0
worth_told r p file row w sound root unnumbered here =
    let kept = kept_alike (file_leaves file r.locations) (kept_of p) p.root row w (subst IsSound (sym root) sound) here in
    worth_row (uses_root p.expression.term) (file_leaves file r.locations) p row kept.value refl unnumbered kept.is
    ∙ kept_meaning (head_of p.root).dtype p.expression.term kept.value w 0 kept.alike

some_value : (f : Datum → Option Datum) (o : Option Datum) (v : Datum) → option_and_then f o ≡ Some v → (w : Datum) × (o ≡ Some w) × (f w ≡ Some v)
some_value f None v is = absurd cc
some_value f (Some w) v is = (w, refl, is)

-- what is told of a row is what the projection is worth there
told_answer : (r : ReaderData) (p : Projection) (file : List ℕ) (row : ℕ) (v : Datum) → IsReader r → p.root ≡ subtree r.nodes r.node → uses_row_number p.expression.term ≡ false → told_row r p.expression file row ≡ Some v → projected_at (file_leaves file r.locations) p row ≡ Some v
told_answer r p file row v reader root unnumbered told =
    let F : Tree → Type 0 = λ t. option_and_then (λ u. meaning (head_of t).dtype no_bound p.expression.term u 0) (derived (file_leaves file r.locations) (derivation t all row)) ≡ Some v in
    let there : F p.root = subst F (sym root) told in
    let o = some_value (λ u. meaning (head_of p.root).dtype no_bound p.expression.term u 0) (derived (file_leaves file r.locations) (derivation p.root all row)) v there in
    worth_told r p file row o.0 (good_sound r.nodes reader.good r.node reader.known) root unnumbered o.1 ∙ o.2

-- ---- the columns of the splits, one behind another

ascend_tail : (x y : ℕ) (xs : List ℕ) → Ascend (x ∷ y ∷ xs) → Ascend (y ∷ xs)
ascend_tail x y xs up k d lt =
    let e : suc k + 1 ≡ suc (k + 1) = omega arith in
    let next = up (suc k) d (omega arith) in
    rw e at next

-- the last of rows that ascend is no less than the first
last_above : (x last : ℕ) (xs : List ℕ) → Ascend (x ∷ xs) → slice_get (x ∷ xs) (length xs) ≡ Some last → x ≤ last
last_above x last [] up is = let same : x ≡ last = cc in omega arith
last_above x last (y ∷ xs) up is =
    let less : x < y = up 0 0 (omega arith) in
    let more : y ≤ last = last_above y last xs (ascend_tail x y xs up) is in
    omega arith

columns_join : (f : ℕ → Option Datum) (start last : ℕ) (rest : List ℕ) (columns : List ColumnData) → Ascend (start ∷ rest) → slice_get (start ∷ rest) (length rest) ≡ Some last → AreSplitColumns (λ from to column. AreOf f (range_with_len from (to - from)) column.values) (start ∷ rest) columns → AreOf f (range_with_len start (last - start)) (joined columns)
columns_join f start last [] [] up is are =
    let same : start ≡ last = cc in
    let none : last - start ≡ 0 = omega arith in
    ap (λ (k : ℕ). map f (range_with_len start k)) none
columns_join f start last [] (column ∷ columns) up is are = absurd are
columns_join f start last (next ∷ rest) [] up is are = absurd are
columns_join f start last (next ∷ rest) (column ∷ columns) up is are =
    let less : start < next = up 0 0 (omega arith) in
    let more : next ≤ last = last_above next last rest (ascend_tail start next rest up) is in
    let split : range_with_len start (last - start) ≡ range_with_len start (next - start) ++ range_with_len next (last - next) = range_split start next (next - start) (last - next) (last - start) (omega arith) (omega arith) in
    let later : map f (range_with_len next (last - next)) ≡ map Some (joined columns) = columns_join f next last rest columns (ascend_tail start next rest up) is are.1 in
    ap (map f) split ∙ map-append f (range_with_len start (next - start)) (range_with_len next (last - next))
    ∙ ap (λ (vs : List (Option Datum)). vs ++ map f (range_with_len next (last - next))) are.0
    ∙ ap (λ (vs : List (Option Datum)). map Some column.values ++ vs) later
    ∙ sym (map-append Some column.values (joined columns))

-- what each column tells by the file
told_columns : (r : ReaderData) (e : Bound) (before : SourceState) (file : List ℕ) → before.file ≡ Some file → (splits : List ℕ) (columns : List ColumnData) → AreSplitColumns (IsSplitColumn r e before) splits columns → AreSplitColumns (λ from to column. AreOf (told_row r e file) (range_with_len from (to - from)) column.values) splits columns
told_columns r e before file told [] [] are = tt
told_columns r e before file told [] (column ∷ columns) are = absurd are
told_columns r e before file told (last ∷ []) [] are = tt
told_columns r e before file told (last ∷ []) (column ∷ columns) are = absurd are
told_columns r e before file told (start ∷ end ∷ splits) [] are = absurd are
told_columns r e before file told (start ∷ end ∷ splits) (column ∷ columns) are = (are.0.2 file told, told_columns r e before file told (end ∷ splits) columns are.1)

-- the splits of all rows, where they begin and end
whole_rows : (f : ℕ → Option Datum) (rows : ℕ) (splits : List ℕ) (columns : List ColumnData) → (0 < rows → Spans 0 rows splits) → (rows ≤ 0 → splits ≡ rows ∷ []) → AreSplitColumns (λ from to column. AreOf f (range_with_len from (to - from)) column.values) splits columns → AreOf f (range_with_len 0 rows) (joined columns)
whole_rows f rows splits columns spans alone are = by (cases_lt 0 rows)
  where
    spanned : (splits : List ℕ) → Spans 0 rows splits → AreSplitColumns (λ from to column. AreOf f (range_with_len from (to - from)) column.values) splits columns → AreOf f (range_with_len 0 (rows - 0)) (joined columns)
    spanned [] h are = absurd (let none : None ≡ Some 0 = h.first in cc)
    spanned (start ∷ rest) h are =
        let first : start ≡ 0 = (let same : Some start ≡ Some 0 = h.first in cc) in
        let place : length (start ∷ rest) - 1 ≡ length rest = omega arith in
        let last : slice_get (start ∷ rest) (length rest) ≡ Some rows = ap (slice_get (start ∷ rest)) (sym place) ∙ h.last in
        subst (λ (k : ℕ). AreOf f (range_with_len k (rows - k)) (joined columns)) first (columns_join f start rows rest columns h.ascend last are)

    none : (columns : List ColumnData) → AreSplitColumns (λ from to column. AreOf f (range_with_len from (to - from)) column.values) (rows ∷ []) columns → rows ≤ 0 → AreOf f (range_with_len 0 rows) (joined columns)
    none [] are few = let e : rows ≡ 0 = omega arith in ap (λ (k : ℕ). map f (range_with_len 0 k)) e
    none (column ∷ columns) are few = absurd are

    by : (0 < rows) ⊎ (rows ≤ 0) → AreOf f (range_with_len 0 rows) (joined columns)
    by (inl more) = let e : rows - 0 ≡ rows = omega arith in subst (λ (k : ℕ). AreOf f (range_with_len 0 k) (joined columns)) e (spanned splits (spans more) are)
    by (inr few) = none columns (subst (λ (xs : List ℕ). AreSplitColumns (λ from to column. AreOf f (range_with_len from (to - from)) column.values) xs columns) (alone few) are) few

-- ---- both ways

one_list : (xs ys : List Datum) → map Some xs ≡ map Some ys → xs ≡ ys
one_list [] [] same = refl
one_list [] (y ∷ ys) same = absurd cc
one_list (x ∷ xs) [] same = absurd cc
one_list (x ∷ xs) (y ∷ ys) same =
    let first : x ≡ y = cc in
    let rest : map Some xs ≡ map Some ys = cc in
    let others : xs ≡ ys = one_list xs ys rest in
    λ i. first i ∷ others i

each_selected : (rows : List ℕ) → filter (selects selections.All) rows ≡ rows
each_selected [] = refl
each_selected (row ∷ rows) = ap (λ (rest : List ℕ). row ∷ rest) (each_selected rows)

-- a scan of all rows has each of them
pub all_scanned : (scan : FileScan) (reader : Reader) → IsOfAllRows scan reader → scan_rows scan ≡ range_with_len 0 (row_count scan)
all_scanned scan reader of =
    let e : row_count scan - 0 ≡ row_count scan = omega arith in
    (λ i. limited (of.limit i) (taken_rows (of.selection i) (of.range i) (row_count scan)))
    ∙ each_selected (range_with_len 0 (row_count scan - 0)) ∙ ap (range_with_len 0) e

outside_none : (rule : SplitBy) (rows : ℕ) → IsOutOfRange rule rows 0 rows → ⊥
outside_none Layout rows (inl less) = absurd (omega arith)
outside_none Layout rows (inr less) = absurd (omega arith)
outside_none (LayoutSubSplitting max_rows) rows (inl less) = absurd (omega arith)
outside_none (LayoutSubSplitting max_rows) rows (inr less) = absurd (omega arith)
outside_none (RowCount size) rows out = out

-- what is read is the answer
pub read_answer : (reader : Reader) (rule : SplitBy) (scan : FileScan) (limit : ℕ) (columns : Vec ColumnData) (before after : SourceState) (file : List ℕ) → IsReader (reader_data reader) → IsOfAllRows scan reader → ReadsRows limit rule (Ok columns) reader scan.projection.expression before after → before.file ≡ Some file → IsAnswer (file_leaves file scan.locations) scan.projection (range_with_len 0 (row_count scan)) (joined columns.items)
read_answer reader rule scan limit columns before after file sound of read told =
    let r : ReaderData = reader_data reader in
    let e : Bound = scan.projection.expression in
    let rows : ℕ = (reader_head r).rows in
    let splits : List ℕ = read.ends.1.0 in
    let f : ℕ → Option Datum = told_row r e file in
    let are = whole_rows f rows splits columns.items
    (λ some. splits_span rule (told_splits reader) 0 rows splits some read.ends.0 read.ends.1.1)
    (λ none. splits_alone rule (told_splits reader) 0 rows splits (omega arith) read.ends.0 (outside_none rule rows) read.ends.1.1)
    (told_columns r e before file told splits columns.items read.ends.1.2) in
    let p : Projection = scan.projection in
    let here : AreOf (projected_at (file_leaves file r.locations) p) (range_with_len 0 rows) (joined columns.items) =
    then_rows f (projected_at (file_leaves file r.locations) p) Some (λ row v at. told_answer r p file row v sound of.root of.no_numbers at) (range_with_len 0 rows) (joined columns.items) (joined columns.items) are refl in
    let same_rows : rows ≡ row_count scan = ap (λ (t : Tree). (head_of t).rows) (sym of.root) in
    subst (λ (k : ℕ). IsAnswer (file_leaves file scan.locations) p (range_with_len 0 k) (joined columns.items)) same_rows
    (subst (λ (ls : List SegmentLocation). IsAnswer (file_leaves file ls) p (range_with_len 0 rows) (joined columns.items)) (sym of.locations) here)

abbrev pub flat : List (List Datum) → List Datum
flat pieces = flat_map (λ (piece : List Datum). piece) pieces

-- what is scanned is
scan_answer : PiecesAnswer → (reader : Reader) (scan : FileScan) (limit : ℕ) (batches : Vec ColumnData) (befores afters : List SourceState) (file : List ℕ) → IsOfAllRows scan reader → AnswersScan scan limit (Ok batches) befores afters → AllTell file befores → IsAnswer (file_leaves file scan.locations) scan.projection (range_with_len 0 (row_count scan)) (flat (map (λ (batch : ColumnData). batch.values) batches.items))
scan_answer pieces_answer reader scan limit batches befores afters file of answers tell =
    subst (λ (rows : List ℕ). IsAnswer (file_leaves file scan.locations) scan.projection rows (flat (map (λ (batch : ColumnData). batch.values) batches.items))) (all_scanned scan reader of)
    (pieces_answer (file_leaves file scan.locations) scan.projection (size_of scan) (scan_rows scan) (map (λ (batch : ColumnData). batch.values) batches.items) (answers.content file tell))

-- both words for the values of columns, one column after another
pub flat_joined : (columns : List ColumnData) → flat (map (λ (column : ColumnData). column.values) columns) ≡ joined columns
flat_joined [] = refl
flat_joined (column ∷ columns) = ap (λ (rest : List Datum). column.values ++ rest) (flat_joined columns)

pub both_are_one : PiecesAnswer → (reader : Reader) (rule : SplitBy) (scan : FileScan) (read_limit scan_limit : ℕ) (columns batches : Vec ColumnData) (before after : SourceState) (befores afters : List SourceState) (file : List ℕ) → IsReader (reader_data reader) → IsOfAllRows scan reader → ReadsRows read_limit rule (Ok columns) reader scan.projection.expression before after → before.file ≡ Some file → AnswersScan scan scan_limit (Ok batches) befores afters → AllTell file befores → AreOneAnswer scan file columns.items batches.items
both_are_one pieces_answer reader rule scan read_limit scan_limit columns batches before after befores afters file sound of read told answers tell =
    let one = read_answer reader rule scan read_limit columns before after file sound of read told in
    let other = scan_answer pieces_answer reader scan scan_limit batches befores afters file of answers tell in
    record {
      same = sym (flat_joined batches.items) ∙ one_list (flat (map (λ (batch : ColumnData). batch.values) batches.items)) (joined columns.items) (sym other ∙ one);
      answer = one;
    }
