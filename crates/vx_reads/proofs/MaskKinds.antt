-- What a filter keeps of a node's rows and why it keeps nothing, by the kind of the node.
use Rattle.std.proofs.Common.{◌≡◌, ℕ, ◌+◌, ◌-◌, ◌<◌, Bool, true, false, List, [], ◌∷◌, Option, Some, None, Result, Ok, Err, length, map, drop, replicate, refl, sym, ap, ◌∙◌, subst, arith}
use Rattle.std.specs.Prelude.{slice_range, option_and_then, IfErr, IfOk, IsSomeAnd}
use Rattle.std.specs.Bool.{MatchBool}
use Rattle.std.specs.List.{slice_get}
use Rattle.std.proofs.lemmas.Option.{slice_get_within}
use Rattle.vx_masks.proofs.Ranks.{length-ranked}
use Rattle.vx_base.specs.declared.codings.Coding.{Coding}
use Rattle.vx_base.specs.Columns.{ColumnData}
use Rattle.vx_base.specs.Data.{DataType, Datum}
use Rattle.vx_base.specs.Masks.{chosen_of_chosen}
use Rattle.vx_base.specs.Slots.{truth_in}
use Rattle.vx_expr.specs.declared.applying.ApplyError.{ApplyError}
use Rattle.vx_expr.specs.declared.applying.ApplyError.TheVariants as applied
use Rattle.vx_expr.specs.Meaning.{is_strict}
use Rattle.vx_expr.specs.Terms.{Term}
use Rattle.vx_expr.specs.Types.{on_both}
use Rattle.vx_layout.specs.Kept.{all}
use Rattle.vx_layout.specs.Nodes.{Node}
use Rattle.vx_layout.specs.Rows.{derivation, derivation_in}
use Rattle.vx_layout.specs.Trees.{Tree, leaf, chunks, fields, dict, zoned, Forest, Validity, head_of, subtree}
use Rattle.vx_rows.specs.Derivations.{derived_each, each_row, look_up}
use Rattle.vx_rows.specs.Heads.{Head}
use Rattle.vx_rows.specs.SegmentLeaves.{Bytes, leaves_of}
use Rattle.vx_rows.specs.Zones.{Zones}
use Rattle.vx_picking.specs.declared.errors.LookUpError.TheVariants as looked
use Rattle.vx_picking.specs.RowFaults.{root_meaning, IsEvalFault}
use Rattle.vx_picking.specs.Rows.{rows_of, selects_some, AreOf}
use Rattle.vx_picking.proofs.MaskRanges.{length_between}
use Rattle.vx_picking.proofs.SelectedRows.{value_row}
use Rattle.vx_reads.specs.declared.errors.ReaderError.{ReaderError}
use Rattle.vx_reads.specs.declared.errors.ReaderError.TheVariants.{ReadFault, BadSegment, BadCode, EvalFault, NoLocation, Memory}
use Rattle.vx_reads.specs.declared.reads.SegmentRead.{SegmentRead}
use Rattle.vx_reads.specs.Came.{first_bytes, Begin}
use Rattle.vx_reads.specs.Computed.{row_value, AreRowsBy, Fails, HasCause, RowsBy}
use Rattle.vx_reads.specs.Errors.{apply_fault}
use Rattle.vx_reads.specs.FilterFaults.{IsPushedFault}
use Rattle.vx_reads.specs.Filtered.{FaultInChunks, IsKnownAt}
use Rattle.vx_reads.specs.MaskRows.{AreKeptBy, ChunksFail, FilterFails, IsLeafFilterFault, IsLeafKept, RangeFails, RowsCause, RowsFail}
use Rattle.vx_reads.specs.Needed.{needed}
use Rattle.vx_reads.specs.Projected.{row_meaning, IsFaultAt}
use Rattle.vx_reads.specs.Readable.{tree_head, trees_of}
use Rattle.vx_reads.specs.Reads.{HaveBytes}
use Rattle.vx_reads.specs.Truths.{filtered, looked_meaning, AreLookedUp, EachRow, IsKnown}
use Rattle.vx_reads.proofs.ByKind.{alike_here, first_has, leaf_begin}
use Rattle.vx_reads.proofs.Computing.{cause_up, code_fault, finds_in_range, whole_values}
use Rattle.vx_reads.proofs.FilterFaults.{all_row, row_of_both}
use Rattle.vx_reads.proofs.Filtering.{sparse_kept}
use Rattle.vx_reads.proofs.Knowing.{each_none, each_up, rows_known, sparse_worth}
use Rattle.vx_reads.proofs.MaskFilters.{filtered_alike, here_fault, none_filtered}
use Rattle.vx_reads.proofs.Projecting.{projected_values}
use Rattle.vx_reads.proofs.Ranges.{IsHere}

-- ---- no row is selected

pub kept_none : (reads : List SegmentRead) (r : RowsBy) (t : DataType) (e : Term) (start : ℕ) (bits kept : List Bool) → kept ≡ bits → selects_some bits ≡ false → AreKeptBy reads r t e start bits kept
kept_none reads r t e start bits kept same none bytes have = record {
  is = same ∙ none_filtered (row_meaning bytes r t e) start bits none;
  known = each_none (IsKnownAt bytes r t e) start bits none;
}

pub empty_none : (bits : List Bool) → length bits ≡ 0 → selects_some bits ≡ false
empty_none [] none = refl
empty_none (bit ∷ bits) none = absurd (omega arith)

-- ---- a leaf

pub leaf_keeps : (result : Result (List Bool) ReaderError) (t : Tree) (head : Head) (segment : ℕ) (coding : Coding) (e : Term) (start next : ℕ) (bits : List Bool) (these : List ℕ) (reads : List SegmentRead) → t ≡ leaf head segment coding → 0 < length bits → first_bytes (drop next reads) ≡ Some these → Begin (needed t start bits) (drop next reads) → IfOk result (IsLeafKept head segment coding these e start bits) → IfOk result (AreKeptBy reads (derivation t all) head.dtype e start bits)
leaf_keeps (Err fault) t head segment coding e start next bits these reads is some first ready by = tt
leaf_keeps (Ok kept) t head segment coding e start next bits these reads is some first ready by =
    subst (λ (t : Tree). AreKeptBy reads (derivation t all) head.dtype e start bits kept) (sym is)
    (λ bytes have. by bytes (first_has reads next these segment first (leaf_begin t head segment coding start bits (drop next reads) is some ready) bytes have))

pub leaf_fails : (result : Result (List Bool) ReaderError) (t : Tree) (head : Head) (segment : ℕ) (coding : Coding) (e : Term) (start first_row next : ℕ) (bits : List Bool) (these : List ℕ) (reads : List SegmentRead) → t ≡ leaf head segment coding → 0 < length bits → first_bytes (drop next reads) ≡ Some these → Begin (needed t start bits) (drop next reads) → IfErr result (IsLeafFilterFault head segment coding these e start first_row bits) → IfErr result (FilterFails reads t head.dtype e start first_row bits)
leaf_fails (Ok kept) t head segment coding e start first_row next bits these reads is some first ready by = tt
leaf_fails (Err fault) t head segment coding e start first_row next bits these reads is some first ready by =
    subst (λ (t : Tree). FilterFails reads t head.dtype e start first_row bits fault) (sym is)
    (λ bytes have. by bytes (first_has reads next these segment first (leaf_begin t head segment coding start bits (drop next reads) is some ready) bytes have))

-- ---- chunks

pub chunks_keep : (result : Result (List Bool) ReaderError) (t : Tree) (head : Head) (forest : Forest) (dtype : DataType) (e : Term) (start : ℕ) (bits : List Bool) (reads : List SegmentRead) → t ≡ chunks head forest → IfOk result (AreKeptBy reads (derivation_in forest all) dtype e start bits) → IfOk result (AreKeptBy reads (derivation t all) dtype e start bits)
chunks_keep (Err fault) t head forest dtype e start bits reads is by = tt
chunks_keep (Ok kept) t head forest dtype e start bits reads is by = subst (λ (t : Tree). AreKeptBy reads (derivation t all) dtype e start bits kept) (sym is) by

chunks_fault : (fault : ReaderError) (head : Head) (forest : Forest) (dtype : DataType) (e : Term) (start first : ℕ) (bits : List Bool) (reads : List SegmentRead) → ChunksFail reads forest dtype e start first bits fault → FilterFails reads (chunks head forest) dtype e start first bits fault
chunks_fault (EvalFault number) head forest dtype e start first bits reads fails bytes have = fails bytes have
chunks_fault ReadFault head forest dtype e start first bits reads fails bytes have = fails bytes have
chunks_fault (BadSegment segment) head forest dtype e start first bits reads fails bytes have = fails bytes have
chunks_fault (BadCode node row) head forest dtype e start first bits reads fails bytes have = fails bytes have
chunks_fault (NoLocation segment) head forest dtype e start first bits reads fails bytes have = fails bytes have
chunks_fault Memory head forest dtype e start first bits reads fails bytes have = fails bytes have

pub chunks_fail : (result : Result (List Bool) ReaderError) (t : Tree) (head : Head) (forest : Forest) (dtype : DataType) (e : Term) (start first : ℕ) (bits : List Bool) (reads : List SegmentRead) → t ≡ chunks head forest → IfErr result (ChunksFail reads forest dtype e start first bits) → IfErr result (FilterFails reads t dtype e start first bits)
chunks_fail (Ok kept) t head forest dtype e start first bits reads is by = tt
chunks_fail (Err fault) t head forest dtype e start first bits reads is by =
    subst (λ (t : Tree). FilterFails reads t dtype e start first bits fault) (sym is) (chunks_fault fault head forest dtype e start first bits reads by)

-- a fault of a chunk is one of all chunks
pub range_failed : (error : ReaderError) (reads : List SegmentRead) (nodes : List Node) (ns : List ℕ) (place chunk start row first done end : ℕ) (mask : List Bool) (t : DataType) (e : Term) → slice_get ns place ≡ Some chunk → IsHere mask done end ((tree_head nodes chunk).rows - row) →
    ((i : ℕ) → i < length mask - done → derivation_in (trees_of nodes ns) all (start + (done + i)) ≡ derivation_in (trees_of nodes (drop place ns)) all (row + i)) →
    ((bytes : Bytes) (number : ℕ) → FaultInChunks bytes t e (trees_of nodes (drop place ns)) row (first + done) (drop done mask) number → FaultInChunks bytes t e (trees_of nodes ns) start first mask number) →
    RangeFails reads (subtree nodes chunk) t e row (first + done) (slice_range mask done end) error → ChunksFail reads (trees_of nodes ns) t e start first mask error
range_failed error reads nodes ns place chunk start row first done end mask t e at here alike up fails = by error fails
  where
    raised : (fault : ReaderError) (bytes : Bytes) → HasCause bytes (derivation (subtree nodes chunk) all) row (length (slice_range mask done end)) fault → HasCause bytes (derivation_in (trees_of nodes ns) all) start (length mask) fault
    raised fault bytes cause =
        let long : length (slice_range mask done end) ≡ end - done = length_between mask done end here.forwards here.inside in
        cause_up bytes (derivation (subtree nodes chunk) all) row (end - done) (derivation_in (trees_of nodes ns) all) start (length mask)
        (finds_in_range (derivation_in (trees_of nodes ns) all) (derivation (subtree nodes chunk) all) start row done end (length mask) here.inside (alike_here nodes ns place chunk start row done end mask at here alike))
        fault (subst (λ (count : ℕ). HasCause bytes (derivation (subtree nodes chunk) all) row count fault) long cause)

    by : (fault : ReaderError) → RangeFails reads (subtree nodes chunk) t e row (first + done) (slice_range mask done end) fault → ChunksFail reads (trees_of nodes ns) t e start first mask fault
    by (EvalFault number) fails bytes have =
        let found = fails bytes have in
        up bytes number (here_fault nodes ns place chunk row first done end mask bytes t e number at here found.0 found.1)
    by ReadFault fails bytes have = raised ReadFault bytes (fails bytes have)
    by (BadSegment segment) fails bytes have = raised (BadSegment segment) bytes (fails bytes have)
    by (BadCode node row) fails bytes have = raised (BadCode node row) bytes (fails bytes have)
    by (NoLocation segment) fails bytes have = raised (NoLocation segment) bytes (fails bytes have)
    by Memory fails bytes have = raised Memory bytes (fails bytes have)

-- a fault of the selected rows of a range is one of it
pub range_cause : (result : Result (List Bool) ReaderError) (reads : List SegmentRead) (tree : Tree) (t : DataType) (e : Term) (start first : ℕ) (some bits : List Bool) → some ≡ bits → selects_some some ≡ true → IfErr result (FilterFails reads tree t e start first some) → IfErr result (RangeFails reads tree t e start first bits)
range_cause (Ok kept) reads tree t e start first some bits same selects by = tt
range_cause (Err error) reads tree t e start first some bits same selects by = subst (λ (bits : List Bool). RangeFails reads tree t e start first bits error) same (each_fault error by)
  where
    each_fault : (fault : ReaderError) → FilterFails reads tree t e start first some fault → RangeFails reads tree t e start first some fault
    each_fault (EvalFault number) fails bytes have = (selects, fails bytes have)
    each_fault ReadFault fails bytes have = fails bytes have
    each_fault (BadSegment segment) fails bytes have = fails bytes have
    each_fault (BadCode node row) fails bytes have = fails bytes have
    each_fault (NoLocation segment) fails bytes have = fails bytes have
    each_fault Memory fails bytes have = fails bytes have

-- ---- a column of selected rows

pub looked_kept : (reads : List SegmentRead) (r : RowsBy) (t s : DataType) (e : Term) (start : ℕ) (bits : List Bool) (values out : List Datum) (truths kept : List Bool) → t ≡ s → AreRowsBy reads r start bits values → map (root_meaning t e) values ≡ map Some out → truths ≡ map truth_in out → kept ≡ chosen_of_chosen bits truths → AreKeptBy reads r s e start bits kept
looked_kept reads r t s e start bits values out truths kept same are worked true_are kept_are bytes have =
    let worth = projected_values reads r t s e start bits values out same are worked bytes have in
    record {
      is = kept_are ∙ ap (chosen_of_chosen bits) true_are ∙ sparse_kept (row_meaning bytes r s e) start bits out worth;
      known = rows_known bytes r s e start bits (sparse_worth (row_meaning bytes r s e) start bits out worth);
    }

pub ranked_rows : (bits truths kept : List Bool) → kept ≡ chosen_of_chosen bits truths → length kept ≡ length bits
ranked_rows bits truths kept is = ap length is ∙ length-ranked bits truths

eval_row : (reads : List SegmentRead) (r : RowsBy) (t : DataType) (e : Term) (start first : ℕ) (bits : List Bool) (values : List Datum) (number : ℕ) → AreRowsBy reads r start bits values → (fault : IsEvalFault t e values first bits (applied.EvalFault number)) → (bytes : Bytes) → HaveBytes bytes reads → (o : Option Datum) → slice_get values fault.0 ≡ o → IsSomeAnd o (λ v. root_meaning t e v ≡ None) → RowsCause bytes r t e start first bits (EvalFault number)
eval_row reads r t e start first bits values number are fault bytes have None at some = absurd some
eval_row reads r t e start first bits values number are fault bytes have (Some v) at some =
    let w = value_row (row_value bytes r) (rows_of start bits) values (are bytes have) fault.0 v at in
    let b = row_of_both start first bits fault.0 w.0 w.1 in
    let named : number ≡ first + b.0 = fault.2 (first + b.0) b.3 in
    let here : row_value bytes r (start + b.0) ≡ Some v = ap (row_value bytes r) (sym b.2) ∙ w.2 in
    (b.0, b.1, sym named, subst (λ (o : Option Datum). IsSomeAnd o (λ v. root_meaning t e v ≡ None)) (sym here) some)

pub looked_fault : (error : ApplyError) (reads : List SegmentRead) (r : RowsBy) (t s : DataType) (e : Term) (start first : ℕ) (bits : List Bool) (values : List Datum) → t ≡ s → AreRowsBy reads r start bits values → IsEvalFault t e values first bits error → RowsFail reads r s e start first bits (apply_fault error)
looked_fault (applied.EvalFault number) reads r t s e start first bits values same are fault =
    subst (λ (s : DataType). RowsFail reads r s e start first bits (EvalFault number)) same
    (λ bytes have. eval_row reads r t e start first bits values number are fault bytes have (slice_get values fault.0) refl fault.1)
looked_fault applied.Memory reads r t s e start first bits values same are fault = λ bytes have. tt

pub rows_fail : (fault : ReaderError) (reads : List SegmentRead) (r : RowsBy) (t : DataType) (e : Term) (start first : ℕ) (bits : List Bool) → Fails reads r start (length bits) fault → RowsFail reads r t e start first bits fault
rows_fail (EvalFault row) reads r t e start first bits fails bytes have = absurd (fails bytes have)
rows_fail ReadFault reads r t e start first bits fails bytes have = fails bytes have
rows_fail (BadSegment segment) reads r t e start first bits fails bytes have = fails bytes have
rows_fail (BadCode node row) reads r t e start first bits fails bytes have = fails bytes have
rows_fail (NoLocation segment) reads r t e start first bits fails bytes have = fails bytes have
rows_fail Memory reads r t e start first bits fails bytes have = fails bytes have

-- ---- data in zones

pub zoned_keeps : (result : Result (List Bool) ReaderError) (t : Tree) (head : Head) (zones : Zones) (content table : Tree) (dtype : DataType) (e : Term) (start : ℕ) (bits : List Bool) (reads : List SegmentRead) → t ≡ zoned head zones content table → (head_of content).dtype ≡ dtype → IfOk result (AreKeptBy reads (derivation content all) (head_of content).dtype e start bits) → IfOk result (AreKeptBy reads (derivation t all) dtype e start bits)
zoned_keeps (Err fault) t head zones content table dtype e start bits reads is typed by = tt
zoned_keeps (Ok kept) t head zones content table dtype e start bits reads is typed by =
    subst (λ (t : Tree). AreKeptBy reads (derivation t all) dtype e start bits kept) (sym is) (subst (λ (s : DataType). AreKeptBy reads (derivation content all) s e start bits kept) typed by)

zoned_fault : (fault : ReaderError) (head : Head) (zones : Zones) (content table : Tree) (dtype : DataType) (e : Term) (start first : ℕ) (bits : List Bool) (reads : List SegmentRead) → FilterFails reads content dtype e start first bits fault → FilterFails reads (zoned head zones content table) dtype e start first bits fault
zoned_fault (EvalFault number) head zones content table dtype e start first bits reads fails bytes have = fails bytes have
zoned_fault ReadFault head zones content table dtype e start first bits reads fails bytes have = fails bytes have
zoned_fault (BadSegment segment) head zones content table dtype e start first bits reads fails bytes have = fails bytes have
zoned_fault (BadCode node row) head zones content table dtype e start first bits reads fails bytes have = fails bytes have
zoned_fault (NoLocation segment) head zones content table dtype e start first bits reads fails bytes have = fails bytes have
zoned_fault Memory head zones content table dtype e start first bits reads fails bytes have = fails bytes have

pub zoned_fails : (result : Result (List Bool) ReaderError) (t : Tree) (head : Head) (zones : Zones) (content table : Tree) (dtype : DataType) (e : Term) (start first : ℕ) (bits : List Bool) (reads : List SegmentRead) → t ≡ zoned head zones content table → (head_of content).dtype ≡ dtype → IfErr result (FilterFails reads content (head_of content).dtype e start first bits) → IfErr result (FilterFails reads t dtype e start first bits)
zoned_fails (Ok kept) t head zones content table dtype e start first bits reads is typed by = tt
zoned_fails (Err fault) t head zones content table dtype e start first bits reads is typed by =
    subst (λ (t : Tree). FilterFails reads t dtype e start first bits fault) (sym is)
    (zoned_fault fault head zones content table dtype e start first bits reads (subst (λ (s : DataType). FilterFails reads content s e start first bits fault) typed by))

-- ---- a struct

struct_fault : (fault : ReaderError) (head : Head) (forest : Forest) (validity : Validity) (dtype : DataType) (e : Term) (start first : ℕ) (bits : List Bool) (reads : List SegmentRead) → RowsFail reads (derivation (fields head forest validity) all) dtype e start first bits fault → FilterFails reads (fields head forest validity) dtype e start first bits fault
struct_fault (EvalFault number) head forest validity dtype e start first bits reads fails bytes have = fails bytes have
struct_fault ReadFault head forest validity dtype e start first bits reads fails bytes have = fails bytes have
struct_fault (BadSegment segment) head forest validity dtype e start first bits reads fails bytes have = fails bytes have
struct_fault (BadCode node row) head forest validity dtype e start first bits reads fails bytes have = fails bytes have
struct_fault (NoLocation segment) head forest validity dtype e start first bits reads fails bytes have = fails bytes have
struct_fault Memory head forest validity dtype e start first bits reads fails bytes have = fails bytes have

pub struct_fails : (result : Result (List Bool) ReaderError) (t : Tree) (head : Head) (forest : Forest) (validity : Validity) (dtype : DataType) (e : Term) (start first : ℕ) (bits : List Bool) (reads : List SegmentRead) → t ≡ fields head forest validity → IfErr result (RowsFail reads (derivation t all) dtype e start first bits) → IfErr result (FilterFails reads t dtype e start first bits)
struct_fails (Ok kept) t head forest validity dtype e start first bits reads is by = tt
struct_fails (Err fault) t head forest validity dtype e start first bits reads is by =
    subst (λ (t : Tree). FilterFails reads t dtype e start first bits fault) (sym is)
    (struct_fault fault head forest validity dtype e start first bits reads (subst (λ (t : Tree). RowsFail reads (derivation t all) dtype e start first bits fault) is by))

-- ---- a dictionary

looked_case : (fault : ReaderError) (head : Head) (values codes : Tree) (t : DataType) (e : Term) (start first : ℕ) (bits : List Bool) (reads : List SegmentRead) → is_strict e ≡ false → RowsFail reads (derivation (dict head values codes) all) t e start first bits fault → FilterFails reads (dict head values codes) t e start first bits fault
looked_case (EvalFault number) head values codes t e start first bits reads lax fails bytes have =
    subst (λ (b : Bool). MatchBool b ((selects_some bits ≡ true) × (number < (head_of values).rows) × IsFaultAt bytes (derivation values all) t e number)
    ((place : ℕ) × (slice_get bits place ≡ Some true) × (first + place ≡ number) × IsFaultAt bytes (derivation (dict head values codes) all) t e (start + place))) (sym lax) (fails bytes have)
looked_case ReadFault head values codes t e start first bits reads lax fails bytes have = fails bytes have
looked_case (BadSegment segment) head values codes t e start first bits reads lax fails bytes have = fails bytes have
looked_case (BadCode node row) head values codes t e start first bits reads lax fails bytes have = fails bytes have
looked_case (NoLocation segment) head values codes t e start first bits reads lax fails bytes have = fails bytes have
looked_case Memory head values codes t e start first bits reads lax fails bytes have = fails bytes have

pub looked_fails : (result : Result (List Bool) ReaderError) (t : Tree) (head : Head) (values codes : Tree) (dtype : DataType) (e : Term) (start first : ℕ) (bits : List Bool) (reads : List SegmentRead) → t ≡ dict head values codes → is_strict e ≡ false → IfErr result (RowsFail reads (derivation t all) dtype e start first bits) → IfErr result (FilterFails reads t dtype e start first bits)
looked_fails (Ok kept) t head values codes dtype e start first bits reads is lax by = tt
looked_fails (Err fault) t head values codes dtype e start first bits reads is lax by =
    subst (λ (t : Tree). FilterFails reads t dtype e start first bits fault) (sym is)
    (looked_case fault head values codes dtype e start first bits reads lax (subst (λ (t : Tree). RowsFail reads (derivation t all) dtype e start first bits fault) is by))

-- why the codes and the values are not there is why nothing is kept
pub fails_filter : (fault : ReaderError) (reads : List SegmentRead) (t : Tree) (dtype : DataType) (e : Term) (start first : ℕ) (bits : List Bool) → Fails reads (derivation t all) start (length bits) fault → FilterFails reads t dtype e start first bits fault
fails_filter (EvalFault row) reads t dtype e start first bits fails bytes have = absurd (fails bytes have)
fails_filter ReadFault reads t dtype e start first bits fails bytes have = fails bytes have
fails_filter (BadSegment segment) reads t dtype e start first bits fails bytes have = fails bytes have
fails_filter (BadCode node row) reads t dtype e start first bits fails bytes have = fails bytes have
fails_filter (NoLocation segment) reads t dtype e start first bits fails bytes have = fails bytes have
fails_filter Memory reads t dtype e start first bits fails bytes have = fails bytes have

look_each : (vs : List Datum) (whole : Option (List Datum)) (code : Option Datum) → whole ≡ Some vs → option_and_then (look_up vs) code ≡ on_both look_up whole code
look_each vs whole code is = by code ∙ ap (λ (w : Option (List Datum)). on_both look_up w code) (sym is)
  where
    by : (code : Option Datum) → option_and_then (look_up vs) code ≡ on_both look_up (Some vs) code
    by None = refl
    by (Some v) = refl

-- a strict expression, worked out over the values in the dtype of the dictionary
pub pushed_keeps : (result : Result (List Bool) ReaderError) (t : Tree) (head : Head) (vt ct : Tree) (values : ColumnData) (dtype : DataType) (e : Term) (start : ℕ) (bits : List Bool) (cs vs : List Datum) (reads : List SegmentRead) → t ≡ dict head vt ct → values.dtype ≡ dtype → values.values ≡ vs → AreRowsBy reads (derivation ct all) start bits cs → AreRowsBy reads (derivation vt all) 0 (replicate (head_of vt).rows true) vs →
    IfOk result (λ kept. (code_at : ℕ → Option Datum) → AreOf code_at (rows_of start bits) cs → kept ≡ filtered (looked_meaning values e code_at) start bits) →
    IfOk result (λ kept. (code_at : ℕ → Option Datum) → AreOf code_at (rows_of start bits) cs → AreLookedUp values e code_at start bits) → IfOk result (AreKeptBy reads (derivation t all) dtype e start bits)
pushed_keeps (Err fault) t head vt ct values dtype e start bits cs vs reads is typed same coded valued by looked = tt
pushed_keeps (Ok kept) t head vt ct values dtype e start bits cs vs reads is typed same coded valued by looked =
    subst (λ (t : Tree). AreKeptBy reads (derivation t all) dtype e start bits kept) (sym is) (λ bytes have. record { is = all_rows bytes have; known = all_known bytes have })
  where
    -- the value at the code of a row is the dictionary's
    one_value : (bytes : Bytes) → HaveBytes bytes reads → (row : ℕ) → option_and_then (look_up values.values) (row_value bytes (derivation ct all) row) ≡ row_value bytes (derivation (dict head vt ct) all) row
    one_value bytes have row =
        ap (λ (ws : List Datum). option_and_then (look_up ws) (row_value bytes (derivation ct all) row)) same
        ∙ look_each vs (derived_each (leaves_of bytes) (each_row (derivation vt all) 0 (head_of vt).rows)) (row_value bytes (derivation ct all) row) (whole_values reads vt vs bytes have valued)

    one_row : (bytes : Bytes) → HaveBytes bytes reads → (row : ℕ) → looked_meaning values e (row_value bytes (derivation ct all)) row ≡ row_meaning bytes (derivation (dict head vt ct) all) dtype e row
    one_row bytes have row =
        ap (λ (s : DataType). option_and_then (root_meaning s e) (option_and_then (look_up values.values) (row_value bytes (derivation ct all) row))) typed
        ∙ ap (option_and_then (root_meaning dtype e)) (one_value bytes have row)

    all_rows : (bytes : Bytes) → HaveBytes bytes reads → kept ≡ filtered (row_meaning bytes (derivation (dict head vt ct) all) dtype e) start bits
    all_rows bytes have =
        by (row_value bytes (derivation ct all)) (coded bytes have)
        ∙ filtered_alike (looked_meaning values e (row_value bytes (derivation ct all))) (row_meaning bytes (derivation (dict head vt ct) all) dtype e) (one_row bytes have) start bits

    one_known : (bytes : Bytes) → HaveBytes bytes reads → (row : ℕ) → IsKnown (root_meaning values.dtype e) (option_and_then (look_up values.values) (row_value bytes (derivation ct all) row)) → IsKnownAt bytes (derivation (dict head vt ct) all) dtype e row
    one_known bytes have row known =
        subst (λ (s : DataType). IsKnown (root_meaning s e) (row_value bytes (derivation (dict head vt ct) all) row)) typed (subst (IsKnown (root_meaning values.dtype e)) (one_value bytes have row) known)

    all_known : (bytes : Bytes) → HaveBytes bytes reads → EachRow (IsKnownAt bytes (derivation (dict head vt ct) all) dtype e) start bits
    all_known bytes have =
        each_up (IsKnownAt bytes (derivation (dict head vt ct) all) dtype e) (λ (row : ℕ). IsKnown (root_meaning values.dtype e) (option_and_then (look_up values.values) (row_value bytes (derivation ct all) row))) (one_known bytes have) start bits
        (looked (row_value bytes (derivation ct all)) (coded bytes have))

pushed_value : (reads : List SegmentRead) (head : Head) (vt ct : Tree) (dtype : DataType) (e : Term) (vs : List Datum) (number : ℕ) → AreRowsBy reads (derivation vt all) 0 (replicate (head_of vt).rows true) vs → length vs ≡ (head_of vt).rows → (bytes : Bytes) → HaveBytes bytes reads → (o : Option Datum) → slice_get vs number ≡ o → IsSomeAnd o (λ v. root_meaning dtype e v ≡ None) → (number < (head_of vt).rows) × IsFaultAt bytes (derivation vt all) dtype e number
pushed_value reads head vt ct dtype e vs number valued many bytes have None at some = absurd some
pushed_value reads head vt ct dtype e vs number valued many bytes have (Some v) at some =
    let inside : number < length vs = slice_get_within vs number v at in
    let few : number < (head_of vt).rows = omega arith in
    let w = value_row (row_value bytes (derivation vt all)) (rows_of 0 (replicate (head_of vt).rows true)) vs (valued bytes have) number v at in
    let there : Some (0 + number) ≡ Some w.0 = sym (all_row 0 (head_of vt).rows number few) ∙ w.1 in
    let same : 0 + number ≡ w.0 = cc in
    let row : w.0 ≡ number = omega arith in
    let here : row_value bytes (derivation vt all) number ≡ Some v = ap (row_value bytes (derivation vt all)) (sym row) ∙ w.2 in
    (few, subst (λ (o : Option Datum). IsSomeAnd o (λ v. root_meaning dtype e v ≡ None)) (sym here) some)

pushed_case : (fault : ReaderError) (head : Head) (vt ct : Tree) (values : ColumnData) (dtype : DataType) (e : Term) (number start first : ℕ) (bits : List Bool) (cs vs : List Datum) (reads : List SegmentRead) → head.number ≡ number → values.dtype ≡ dtype → values.values ≡ vs → is_strict e ≡ true → AreRowsBy reads (derivation ct all) start bits cs → AreRowsBy reads (derivation vt all) 0 (replicate (head_of vt).rows true) vs → length vs ≡ (head_of vt).rows →
    selects_some bits ≡ true → IsPushedFault values e cs start bits number fault → FilterFails reads (dict head vt ct) dtype e start first bits fault
pushed_case (EvalFault place) head vt ct values dtype e number start first bits cs vs reads numbered typed same strict coded valued many selects fault bytes have =
    let F : DataType → Type 0 = λ s. IsSomeAnd (slice_get values.values place) (λ v. root_meaning s e v ≡ None) in
    let G : List Datum → Type 0 = λ ws. IsSomeAnd (slice_get ws place) (λ v. root_meaning dtype e v ≡ None) in
    let here : G vs = subst G same (subst F typed fault) in
    let value = pushed_value reads head vt ct dtype e vs place valued many bytes have (slice_get vs place) refl here in
    subst (λ (b : Bool). MatchBool b ((selects_some bits ≡ true) × (place < (head_of vt).rows) × IsFaultAt bytes (derivation vt all) dtype e place)
    ((other : ℕ) × (slice_get bits other ≡ Some true) × (first + other ≡ place) × IsFaultAt bytes (derivation (dict head vt ct) all) dtype e (start + other))) (sym strict)
    (selects, value.0, value.1)
pushed_case (BadCode node row) head vt ct values dtype e number start first bits cs vs reads numbered typed same strict coded valued many selects fault bytes have =
    let counted : length values.values ≡ (head_of vt).rows = ap length same ∙ many in
    let named : head.number ≡ node = numbered ∙ sym fault.0 in
    subst (λ (n : ℕ). HasCause bytes (derivation (dict head vt ct) all) start (length bits) (BadCode n row)) named
    (code_fault reads head vt ct start bits cs (length values.values) (looked.BadCode row) coded counted fault.1 bytes have)
pushed_case Memory head vt ct values dtype e number start first bits cs vs reads numbered typed same strict coded valued many selects fault bytes have = tt
pushed_case ReadFault head vt ct values dtype e number start first bits cs vs reads numbered typed same strict coded valued many selects fault bytes have = absurd fault
pushed_case (BadSegment segment) head vt ct values dtype e number start first bits cs vs reads numbered typed same strict coded valued many selects fault bytes have = absurd fault
pushed_case (NoLocation segment) head vt ct values dtype e number start first bits cs vs reads numbered typed same strict coded valued many selects fault bytes have = absurd fault

pub pushed_fails : (result : Result (List Bool) ReaderError) (t : Tree) (head : Head) (vt ct : Tree) (values : ColumnData) (dtype : DataType) (e : Term) (number start first : ℕ) (bits : List Bool) (cs vs : List Datum) (reads : List SegmentRead) → t ≡ dict head vt ct → head.number ≡ number → values.dtype ≡ dtype → values.values ≡ vs → is_strict e ≡ true → AreRowsBy reads (derivation ct all) start bits cs → AreRowsBy reads (derivation vt all) 0 (replicate (head_of vt).rows true) vs → length vs ≡ (head_of vt).rows → selects_some bits ≡ true →
    IfErr result (IsPushedFault values e cs start bits number) → IfErr result (FilterFails reads t dtype e start first bits)
pushed_fails (Ok kept) t head vt ct values dtype e number start first bits cs vs reads is numbered typed same strict coded valued many selects by = tt
pushed_fails (Err fault) t head vt ct values dtype e number start first bits cs vs reads is numbered typed same strict coded valued many selects by =
    subst (λ (t : Tree). FilterFails reads t dtype e start first bits fault) (sym is)
    (pushed_case fault head vt ct values dtype e number start first bits cs vs reads numbered typed same strict coded valued many selects by)
