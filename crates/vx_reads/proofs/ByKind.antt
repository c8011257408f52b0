-- What a node's column is, by the kind of the node.
use Rattle.std.proofs.Common.{◌≡◌, ℕ, zero, suc, ◌+◌, ◌-◌, ◌<◌, ◌≤◌, Bool, true, List, [], ◌∷◌, ◌++◌, Option, Some, Result, Ok, Err, length, map, drop, replicate, get_or, refl, ◌⊎◌, inl, inr, sym, ap, ◌∙◌, subst, arith}
use Rattle.std.specs.Prelude.{IfOk, IfErr, IfSome, OnOk}
use Rattle.std.specs.List.{slice_get}
use Rattle.std.proofs.lemmas.Bool.{cases_lt}
use Rattle.std.proofs.lemmas.Option.{slice_get-get_or}
use Rattle.vx_base.specs.declared.codings.Coding.{Coding}
use Rattle.vx_base.specs.Columns.{ColumnData}
use Rattle.vx_base.specs.Data.{DataType, Datum}
use Rattle.vx_layout.specs.Kept.{all}
use Rattle.vx_layout.specs.Nodes.{Node}
use Rattle.vx_layout.specs.Rows.{derivation, derivation_in, rows_in}
use Rattle.vx_layout.specs.Trees.{Tree, leaf, chunks, dict, zoned, Forest, head_of, subtree}
use Rattle.vx_layout.specs.Sound.{AreChunks}
use Rattle.vx_rows.specs.Heads.{Head}
use Rattle.vx_rows.specs.Zones.{Zones}
use Rattle.vx_rows.specs.SegmentLeaves.{Bytes}
use Rattle.vx_picking.specs.declared.errors.LookUpError.{LookUpError}
use Rattle.vx_reads.specs.declared.errors.ReaderError.{ReaderError}
use Rattle.vx_reads.specs.Errors.{look_up_fault}
use Rattle.vx_reads.specs.declared.reads.SegmentRead.{SegmentRead}
use Rattle.vx_reads.specs.Computed.{row_value, AddsRows, AreRowsBy, Fails, IsLeafBy, IsLeafFault, RowsBy}
use Rattle.vx_reads.specs.Came.{first_bytes, Begin}
use Rattle.vx_reads.specs.Needed.{needed}
use Rattle.vx_reads.specs.Readable.{tree_head, trees_of}
use Rattle.vx_reads.specs.Reads.{bytes_in, HaveBytes, HasBytes}
use Rattle.vx_picking.specs.Rows.{rows_of, selects_some}
use Rattle.vx_reads.proofs.Chunking.{first_alike, rest_alike}
use Rattle.vx_reads.proofs.Ranges.{IsHere}
use Rattle.vx_base.specs.Masks.{true_count}
use Rattle.vx_rows.specs.Derivations.{look_up}
use Rattle.vx_picking.specs.RowFaults.{IsCodeFault}
use Rattle.vx_reads.proofs.Computing.{code_fault, codes_fail, dict_rows, fails_up, values_fail}
use Rattle.vx_picking.proofs.SelectedRows.{drop_at, dropped_at, true_first}

-- ---- a leaf

first_there : (reads : List SegmentRead) (these : List ℕ) (segment : ℕ) → first_bytes reads ≡ Some these → Begin (segment ∷ []) reads → (read : SegmentRead) × (slice_get reads 0 ≡ Some read) × (read.segment ≡ segment) × (bytes_in read.state ≡ Some these)
first_there [] these segment first begin = absurd begin
first_there (read ∷ reads) these segment first begin = (read, refl, begin.0, first)

-- the bytes of the first of the reads that are left are the segment's
pub first_has : (reads : List SegmentRead) (next : ℕ) (these : List ℕ) (segment : ℕ) → first_bytes (drop next reads) ≡ Some these → Begin (segment ∷ []) (drop next reads) → (bytes : Bytes) → HaveBytes bytes reads → bytes segment ≡ Some these
first_has reads next these segment first begin bytes have =
    let f = first_there (drop next reads) these segment first begin in
    let zero_more : next + 0 ≡ next = omega arith in
    let there : slice_get reads next ≡ Some f.0 = ap (slice_get reads) (sym zero_more) ∙ dropped_at reads next 0 ∙ f.1 in
    let has : HasBytes bytes f.0 = subst (λ (o : Option SegmentRead). IfSome o (HasBytes bytes)) there (have next) in
    ap bytes (sym f.2) ∙ subst (λ (o : Option (List ℕ)). IfSome o (λ these. bytes f.0.segment ≡ Some these)) f.3 has

pub leaf_begin : (t : Tree) (head : Head) (segment : ℕ) (coding : Coding) (start : ℕ) (bits : List Bool) (reads : List SegmentRead) → t ≡ leaf head segment coding → 0 < length bits → Begin (needed t start bits) reads → Begin (segment ∷ []) reads
leaf_begin t head segment coding start [] reads is some ready = absurd (omega arith)
leaf_begin t head segment coding start (bit ∷ bits) reads is some ready = subst (λ (t : Tree). Begin (needed t start (bit ∷ bits)) reads) is ready

pub leaf_values : (result : Result ColumnData ReaderError) (t : Tree) (head : Head) (segment : ℕ) (coding : Coding) (start next : ℕ) (bits : List Bool) (these : List ℕ) (reads : List SegmentRead) → t ≡ leaf head segment coding → 0 < length bits → first_bytes (drop next reads) ≡ Some these → Begin (needed t start bits) (drop next reads) → IfOk result (λ column. IsLeafBy head segment coding these start bits column.values) → IfOk result (λ column. AreRowsBy reads (derivation t all) start bits column.values)
leaf_values (Err fault) t head segment coding start next bits these reads is some first ready by = tt
leaf_values (Ok column) t head segment coding start next bits these reads is some first ready by =
    subst (λ (t : Tree). AreRowsBy reads (derivation t all) start bits column.values) (sym is)
    (λ bytes have. by bytes (first_has reads next these segment first (leaf_begin t head segment coding start bits (drop next reads) is some ready) bytes have))

pub leaf_cause : (result : Result ColumnData ReaderError) (t : Tree) (head : Head) (segment : ℕ) (coding : Coding) (start next : ℕ) (bits : List Bool) (these : List ℕ) (reads : List SegmentRead) → t ≡ leaf head segment coding → 0 < length bits → first_bytes (drop next reads) ≡ Some these → Begin (needed t start bits) (drop next reads) → IfErr result (IsLeafFault head segment coding these start (length bits)) → IfErr result (Fails reads (derivation t all) start (length bits))
leaf_cause (Ok column) t head segment coding start next bits these reads is some first ready by = tt
leaf_cause (Err fault) t head segment coding start next bits these reads is some first ready by =
    subst (λ (t : Tree). Fails reads (derivation t all) start (length bits) fault) (sym is)
    (λ bytes have. by bytes (first_has reads next these segment first (leaf_begin t head segment coding start bits (drop next reads) is some ready) bytes have))

-- ---- no row

pub none_by : (reads : List SegmentRead) (r : RowsBy) (start : ℕ) (bits : List Bool) (values : List Datum) → rows_of start bits ≡ [] → length values ≡ 0 → AreRowsBy reads r start bits values
none_by reads r start bits [] none empty bytes have = ap (map (row_value bytes r)) none
none_by reads r start bits (v ∷ values) none empty bytes have = absurd (omega arith)

-- ---- chunks

pub chunks_values : (result : Result ColumnData ReaderError) (t : Tree) (head : Head) (forest : Forest) (start : ℕ) (bits : List Bool) (reads : List SegmentRead) → t ≡ chunks head forest → IfOk result (λ column. AreRowsBy reads (derivation_in forest all) start bits column.values) → IfOk result (λ column. AreRowsBy reads (derivation t all) start bits column.values)
chunks_values (Err fault) t head forest start bits reads is by = tt
chunks_values (Ok column) t head forest start bits reads is by = subst (λ (t : Tree). AreRowsBy reads (derivation t all) start bits column.values) (sym is) by

pub chunks_cause : (result : Result ColumnData ReaderError) (t : Tree) (head : Head) (forest : Forest) (start count : ℕ) (reads : List SegmentRead) → t ≡ chunks head forest → IfErr result (Fails reads (derivation_in forest all) start count) → IfErr result (Fails reads (derivation t all) start count)
chunks_cause (Ok column) t head forest start count reads is by = tt
chunks_cause (Err fault) t head forest start count reads is by = subst (λ (t : Tree). Fails reads (derivation t all) start count fault) (sym is) by

pub chunks_added : (result : Result (Unit {0}) ReaderError) (t : Tree) (head : Head) (forest : Forest) (dtype : DataType) (start : ℕ) (bits : List Bool) (reads : List SegmentRead) (old new : List ColumnData) → t ≡ chunks head forest → OnOk result (AddsRows reads dtype (derivation_in forest all) start bits old new) → OnOk result (AddsRows reads dtype (derivation t all) start bits old new)
chunks_added result t head forest dtype start bits reads old new is added = subst (λ (t : Tree). OnOk result (AddsRows reads dtype (derivation t all) start bits old new)) (sym is) added

pub chunks_failed : (result : Result (Unit {0}) ReaderError) (t : Tree) (head : Head) (forest : Forest) (start count : ℕ) (reads : List SegmentRead) → t ≡ chunks head forest → IfErr result (Fails reads (derivation_in forest all) start count) → IfErr result (Fails reads (derivation t all) start count)
chunks_failed result t head forest start count reads is failed = subst (λ (t : Tree). IfErr result (Fails reads (derivation t all) start count)) (sym is) failed

-- the chunk at a place
pub chunk_there : (xs : List ℕ) (place : ℕ) → place < length xs → slice_get xs place ≡ Some (get_or xs place 0)
chunk_there xs place lt = slice_get-get_or xs place 0 lt

-- a row of the range is one of the chunk's, and one behind it is one of those that are left
pub alike_here : (nodes : List Node) (ns : List ℕ) (place chunk start row done end : ℕ) (mask : List Bool) → slice_get ns place ≡ Some chunk → IsHere mask done end ((tree_head nodes chunk).rows - row) → ((i : ℕ) → i < length mask - done → derivation_in (trees_of nodes ns) all (start + (done + i)) ≡ derivation_in (trees_of nodes (drop place ns)) all (row + i)) →
    (i : ℕ) → i < end - done → derivation_in (trees_of nodes ns) all (start + (done + i)) ≡ derivation (subtree nodes chunk) all (row + i)
alike_here nodes ns place chunk start row done end mask at here alike i lt =
    alike i (let h = here.inside in omega arith) ∙ ap (λ (ms : List ℕ). derivation_in (trees_of nodes ms) all (row + i)) (drop_at ns place chunk at)
    ∙ first_alike nodes chunk (drop (place + 1) ns) row done end mask here i lt

pub alike_left : (nodes : List Node) (ns : List ℕ) (place chunk start row done end : ℕ) (mask : List Bool) → slice_get ns place ≡ Some chunk → IsHere mask done end ((tree_head nodes chunk).rows - row) → ((i : ℕ) → i < length mask - done → derivation_in (trees_of nodes ns) all (start + (done + i)) ≡ derivation_in (trees_of nodes (drop place ns)) all (row + i)) →
    (i : ℕ) → i < length mask - end → derivation_in (trees_of nodes ns) all (start + (end + i)) ≡ derivation_in (trees_of nodes (drop (place + 1) ns)) all (row - (tree_head nodes chunk).rows + i)
alike_left nodes ns place chunk start row done end mask at here alike i lt =
    let f = here.forwards in
    let same : start + (end + i) ≡ start + (done + (end - done + i)) = omega arith in
    ap (derivation_in (trees_of nodes ns) all) same ∙ alike (end - done + i) (omega arith)
    ∙ ap (λ (ms : List ℕ). derivation_in (trees_of nodes ms) all (row + (end - done + i))) (drop_at ns place chunk at)
    ∙ rest_alike nodes chunk (drop (place + 1) ns) row done end mask here i lt

pub fits_left : (nodes : List Node) (ns : List ℕ) (place chunk row done end : ℕ) (mask : List Bool) → slice_get ns place ≡ Some chunk → IsHere mask done end ((tree_head nodes chunk).rows - row) → row + (length mask - done) ≤ rows_in (trees_of nodes (drop place ns)) → (row - (tree_head nodes chunk).rows) + (length mask - end) ≤ rows_in (trees_of nodes (drop (place + 1) ns))
fits_left nodes ns place chunk row done end mask at here fits =
    let both : rows_in (trees_of nodes (drop place ns)) ≡ (tree_head nodes chunk).rows + rows_in (trees_of nodes (drop (place + 1) ns)) = ap (λ (ms : List ℕ). rows_in (trees_of nodes ms)) (drop_at ns place chunk at) in
    by (cases_lt end (length mask)) both
  where
    by : (end < length mask) ⊎ (length mask ≤ end) → rows_in (trees_of nodes (drop place ns)) ≡ (tree_head nodes chunk).rows + rows_in (trees_of nodes (drop (place + 1) ns)) → (row - (tree_head nodes chunk).rows) + (length mask - end) ≤ rows_in (trees_of nodes (drop (place + 1) ns))
    by (inl lt) both = let whole = here.whole lt in omega arith
    by (inr le) both = omega arith

-- ---- data in zones

pub zoned_needed : (t : Tree) (head : Head) (zones : Zones) (content table : Tree) (start : ℕ) (bits : List Bool) → t ≡ zoned head zones content table → needed t start bits ≡ needed content start bits
zoned_needed t head zones content table start bits is = ap (λ (t : Tree). needed t start bits) is

pub zoned_dtype : (result : Result ColumnData ReaderError) (t s : DataType) → t ≡ s → IfOk result (λ column. column.dtype ≡ t) → IfOk result (λ column. column.dtype ≡ s)
zoned_dtype (Err fault) t s same by = tt
zoned_dtype (Ok column) t s same by = by ∙ same

pub zoned_values : (result : Result ColumnData ReaderError) (t : Tree) (head : Head) (zones : Zones) (content table : Tree) (start : ℕ) (bits : List Bool) (reads : List SegmentRead) → t ≡ zoned head zones content table → IfOk result (λ column. AreRowsBy reads (derivation content all) start bits column.values) → IfOk result (λ column. AreRowsBy reads (derivation t all) start bits column.values)
zoned_values (Err fault) t head zones content table start bits reads is by = tt
zoned_values (Ok column) t head zones content table start bits reads is by = subst (λ (t : Tree). AreRowsBy reads (derivation t all) start bits column.values) (sym is) by

pub zoned_cause : (result : Result ColumnData ReaderError) (t : Tree) (head : Head) (zones : Zones) (content table : Tree) (start count : ℕ) (reads : List SegmentRead) → t ≡ zoned head zones content table → IfErr result (Fails reads (derivation content all) start count) → IfErr result (Fails reads (derivation t all) start count)
zoned_cause (Ok column) t head zones content table start count reads is by = tt
zoned_cause (Err fault) t head zones content table start count reads is by = subst (λ (t : Tree). Fails reads (derivation t all) start count fault) (sym is) by

pub zoned_added : (result : Result (Unit {0}) ReaderError) (t : Tree) (head : Head) (zones : Zones) (content table : Tree) (s dtype : DataType) (start : ℕ) (bits : List Bool) (reads : List SegmentRead) (old new : List ColumnData) → t ≡ zoned head zones content table → s ≡ dtype → OnOk result (AddsRows reads s (derivation content all) start bits old new) → OnOk result (AddsRows reads dtype (derivation t all) start bits old new)
zoned_added result t head zones content table s dtype start bits reads old new is same added =
    subst (λ (t : Tree). OnOk result (AddsRows reads dtype (derivation t all) start bits old new)) (sym is) (subst (λ (s : DataType). OnOk result (AddsRows reads s (derivation content all) start bits old new)) same added)

pub zoned_failed : (result : Result (Unit {0}) ReaderError) (t : Tree) (head : Head) (zones : Zones) (content table : Tree) (start count : ℕ) (reads : List SegmentRead) → t ≡ zoned head zones content table → IfErr result (Fails reads (derivation content all) start count) → IfErr result (Fails reads (derivation t all) start count)
zoned_failed result t head zones content table start count reads is failed = subst (λ (t : Tree). IfErr result (Fails reads (derivation t all) start count)) (sym is) failed

-- ---- a dictionary

pub dict_needed : (t : Tree) (head : Head) (values codes : Tree) (start : ℕ) (bits : List Bool) → t ≡ dict head values codes → selects_some bits ≡ true → needed t start bits ≡ needed codes start bits ++ needed values 0 (replicate (head_of values).rows true)
dict_needed t head values codes start bits is some = ap (λ (t : Tree). needed t start bits) is ∙ rw some refl

pub dict_values : (t : Tree) (head : Head) (values codes : Tree) (start : ℕ) (bits every : List Bool) (cs vs out : List Datum) (reads : List SegmentRead) → t ≡ dict head values codes → every ≡ replicate (head_of values).rows true → AreRowsBy reads (derivation codes all) start bits cs → AreRowsBy reads (derivation values all) 0 every vs → map (look_up vs) cs ≡ map Some out → AreRowsBy reads (derivation t all) start bits out
dict_values t head values codes start bits every cs vs out reads is whole coded valued looked =
    subst (λ (t : Tree). AreRowsBy reads (derivation t all) start bits out) (sym is)
    (dict_rows reads head values codes start bits cs vs out coded (subst (λ (every : List Bool). AreRowsBy reads (derivation values all) 0 every vs) whole valued) looked)

pub dict_cause : (error : LookUpError) (t : Tree) (head : Head) (values codes : Tree) (number start : ℕ) (bits : List Bool) (cs vs : List Datum) (reads : List SegmentRead) → t ≡ dict head values codes → head.number ≡ number → AreRowsBy reads (derivation codes all) start bits cs → length vs ≡ (head_of values).rows → IsCodeFault (length vs) cs start bits error → Fails reads (derivation t all) start (length bits) (look_up_fault number error)
dict_cause error t head values codes number start bits cs vs reads is numbered coded many fault =
    subst (λ (n : ℕ). Fails reads (derivation t all) start (length bits) (look_up_fault n error)) numbered
    (subst (λ (t : Tree). Fails reads (derivation t all) start (length bits) (look_up_fault head.number error)) (sym is)
    (code_fault reads head values codes start bits cs (length vs) error coded many fault))

pub codes_failed : (error : ReaderError) (t : Tree) (head : Head) (values codes : Tree) (start count : ℕ) (reads : List SegmentRead) → t ≡ dict head values codes → Fails reads (derivation codes all) start count error → Fails reads (derivation t all) start count error
codes_failed error t head values codes start count reads is fails =
    subst (λ (t : Tree). Fails reads (derivation t all) start count error) (sym is)
    (fails_up reads (derivation codes all) start count (derivation (dict head values codes) all) start count (codes_fail head values codes start count) error fails)

pub values_failed : (error : ReaderError) (t : Tree) (head : Head) (values codes : Tree) (start count rows : ℕ) (reads : List SegmentRead) → t ≡ dict head values codes → rows ≤ (head_of values).rows → 0 < count → Fails reads (derivation values all) 0 rows error → Fails reads (derivation t all) start count error
values_failed error t head values codes start count rows reads is few some fails =
    subst (λ (t : Tree). Fails reads (derivation t all) start count error) (sym is)
    (fails_up reads (derivation values all) 0 rows (derivation (dict head values codes) all) start count (values_fail head values codes start count rows few some) error fails)

pub count_all : (count : ℕ) → true_count (replicate count true) ≡ count
count_all zero = refl
count_all (suc count) = omega (arith, count_all count, true_first (replicate count true))

pub chunk_dtype : (nodes : List Node) (t : DataType) (ns : List ℕ) (place chunk : ℕ) → AreChunks t (trees_of nodes ns) → slice_get ns place ≡ Some chunk → (tree_head nodes chunk).dtype ≡ t
chunk_dtype nodes t [] place chunk are at = absurd cc
chunk_dtype nodes t (n ∷ ns) zero chunk are at =
    let same : n ≡ chunk = cc in
    ap (λ (m : ℕ). (tree_head nodes m).dtype) (sym same) ∙ are.1
chunk_dtype nodes t (n ∷ ns) (suc place) chunk are at = chunk_dtype nodes t ns place chunk are.2 at
