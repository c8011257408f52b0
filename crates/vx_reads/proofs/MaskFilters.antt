-- What a filter keeps of a leaf and of chunks one after another, and the faults of both.
use Rattle.std.proofs.Common.{◌≡◌, ℕ, suc, ◌+◌, ◌-◌, ◌<◌, ◌≤◌, ◌⊎◌, inl, inr, Bool, true, false, ◌&&◌, List, [], ◌∷◌, ◌++◌, Option, Some, None, Result, Ok, Err, length, take, drop, refl, sym, ap, ◌∙◌, subst, arith}
use Rattle.std.specs.Prelude.{slice_range, option_and_then, IfOk, IsSome, IsSomeAnd}
use Rattle.std.specs.List.{slice_get}
use Rattle.std.proofs.lemmas.Bool.{cases_lt}
use Rattle.std.proofs.lemmas.List.{drop_all, length-take-le, take_all}
use Rattle.vx_base.specs.declared.codings.Coding.{Coding}
use Rattle.vx_base.specs.CodingsRead.{decoded_as}
use Rattle.vx_base.specs.Columns.{ColumnData}
use Rattle.vx_base.specs.Data.{DataType, Datum}
use Rattle.vx_expr.specs.Terms.{Term}
use Rattle.vx_layout.specs.Kept.{all}
use Rattle.vx_layout.specs.Nodes.{Node}
use Rattle.vx_layout.specs.Rows.{derivation}
use Rattle.vx_layout.specs.Trees.{leaf, Forest, no_trees, tree, head_of, subtree}
use Rattle.vx_rows.specs.Derivations.{derived}
use Rattle.vx_rows.specs.Heads.{Head}
use Rattle.vx_rows.specs.SegmentLeaves.{Bytes, leaves_of}
use Rattle.vx_picking.specs.RowFaults.{root_meaning}
use Rattle.vx_picking.specs.Rows.{selects_some}
use Rattle.vx_picking.proofs.MaskRanges.{length_between, range_is}
use Rattle.vx_picking.proofs.SelectedRows.{drop_at}
use Rattle.vx_reads.specs.declared.errors.ReaderError.{ReaderError}
use Rattle.vx_reads.specs.declared.errors.ReaderError.TheVariants.{ReadFault, BadSegment, BadCode, EvalFault, NoLocation, Memory}
use Rattle.vx_reads.specs.declared.reads.SegmentRead.{SegmentRead}
use Rattle.vx_reads.specs.Computed.{RowsBy}
use Rattle.vx_reads.specs.FilterFaults.{IsFaultOf, IsFilterFault}
use Rattle.vx_reads.specs.Filtered.{FaultIn, FaultInChunks, IsKnownAt}
use Rattle.vx_reads.specs.MaskRows.{AreKeptBy, IsLeafFilterFault, IsLeafKept}
use Rattle.vx_reads.specs.Projected.{row_meaning, IsFaultAt}
use Rattle.vx_reads.specs.Readable.{tree_head, trees_of}
use Rattle.vx_reads.specs.Truths.{column_meaning, filtered, is_true, AreWorth, EachRow, IsKnown}
use Rattle.vx_reads.proofs.Computing.{leaf_is}
use Rattle.vx_reads.proofs.Knowing.{each_append, each_none, each_shift, each_up, rows_known}
use Rattle.vx_reads.proofs.Ranges.{range_left, range_taken, IsHere}

-- ---- filtered rows

pub filtered_append : (f : ℕ → Option Datum) (start : ℕ) (xs ys : List Bool) → filtered f start (xs ++ ys) ≡ filtered f start xs ++ filtered f (start + length xs) ys
filtered_append f start [] ys = ap (λ (k : ℕ). filtered f k ys) (omega arith)
filtered_append f start (x ∷ xs) ys =
    let next : start + 1 + length xs ≡ start + length (x ∷ xs) = omega arith in
    ap (λ (bits : List Bool). (x && is_true (f start)) ∷ bits) (filtered_append f (start + 1) xs ys ∙ ap (λ (k : ℕ). filtered f (start + 1) xs ++ filtered f k ys) next)

pub filtered_same : (f g : ℕ → Option Datum) (a b : ℕ) (bits : List Bool) → ((k : ℕ) → k < length bits → f (a + k) ≡ g (b + k)) → filtered f a bits ≡ filtered g b bits
filtered_same f g a b [] same = refl
filtered_same f g a b (bit ∷ bits) same =
    let here : f a ≡ g b = (let p : f (a + 0) ≡ g (b + 0) = same 0 (omega arith) in let x : a + 0 ≡ a = omega arith in let y : b + 0 ≡ b = omega arith in sym (ap f x) ∙ p ∙ ap g y) in
    let rest : filtered f (a + 1) bits ≡ filtered g (b + 1) bits = filtered_same f g (a + 1) (b + 1) bits (λ k h.
    let p : f (a + suc k) ≡ g (b + suc k) = same (suc k) (omega arith) in
    let x : a + 1 + k ≡ a + suc k = omega arith in
    let y : b + suc k ≡ b + 1 + k = omega arith in
    ap f x ∙ p ∙ ap g y) in
    λ i. (bit && is_true (here i)) ∷ rest i

pub filtered_alike : (f g : ℕ → Option Datum) → ((row : ℕ) → f row ≡ g row) → (start : ℕ) (bits : List Bool) → filtered f start bits ≡ filtered g start bits
filtered_alike f g same start [] = refl
filtered_alike f g same start (bit ∷ bits) = λ i. (bit && is_true (same start i)) ∷ filtered_alike f g same (start + 1) bits i

-- a mask of which no row is selected stays
pub none_filtered : (f : ℕ → Option Datum) (start : ℕ) (bits : List Bool) → selects_some bits ≡ false → bits ≡ filtered f start bits
none_filtered f start [] none = refl
none_filtered f start (true ∷ bits) none = absurd cc
none_filtered f start (false ∷ bits) none = ap (λ (rest : List Bool). false ∷ rest) (none_filtered f (start + 1) bits none)

pub filtered_count : (f : ℕ → Option Datum) (start : ℕ) (bits : List Bool) → length (filtered f start bits) ≡ length bits
filtered_count f start [] = refl
filtered_count f start (bit ∷ bits) = ap suc (filtered_count f (start + 1) bits)

pub filtered_rows : {E : Type 0} (result : Result (List Bool) E) (f : ℕ → Option Datum) (start : ℕ) (bits : List Bool) → IfOk result (λ kept. kept ≡ filtered f start bits) → IfOk result (λ kept. length kept ≡ length bits)
filtered_rows (Err error) f start bits is = tt
filtered_rows (Ok kept) f start bits is = ap length is ∙ filtered_count f start bits

-- ---- a leaf

pub leaf_kept : (head : Head) (segment : ℕ) (coding : Coding) (these : List ℕ) (column : ColumnData) (e : Term) (start : ℕ) (bits kept : List Bool) → decoded_as coding head.dtype head.rows these ≡ Some column.values → column.dtype ≡ head.dtype → kept ≡ filtered (column_meaning column e) start bits → AreWorth (column_meaning column e) start bits → IsLeafKept head segment coding these e start bits kept
leaf_kept head segment coding these column e start bits kept read typed is worth bytes at = record {
  is = is ∙ filtered_alike (column_meaning column e) (row_meaning bytes (derivation (leaf head segment coding) all) head.dtype e) same start bits;
  known = rows_known bytes (derivation (leaf head segment coding) all) head.dtype e start bits
      (each_up (λ (row : ℕ). IsSome (row_meaning bytes (derivation (leaf head segment coding) all) head.dtype e row)) (λ (row : ℕ). IsSome (column_meaning column e row)) (λ row some. subst (λ (o : Option Datum). IsSome o) (same row) some) start bits worth);
}
  where
    has : leaves_of bytes head.dtype coding head.rows segment ≡ Some column.values
    has = leaf_is head segment coding these column.values bytes read at

    same : (row : ℕ) → column_meaning column e row ≡ row_meaning bytes (derivation (leaf head segment coding) all) head.dtype e row
    same row =
        ap (λ (t : DataType). option_and_then (root_meaning t e) (slice_get column.values row)) typed
        ∙ ap (λ (o : Option (List Datum)). option_and_then (root_meaning head.dtype e) (option_and_then (λ (vs : List Datum). slice_get vs row) o)) (sym has)

pub leaf_kept_none : (head : Head) (segment : ℕ) (coding : Coding) (these : List ℕ) (e : Term) (start : ℕ) (bits kept : List Bool) → kept ≡ bits → selects_some bits ≡ false → IsLeafKept head segment coding these e start bits kept
leaf_kept_none head segment coding these e start bits kept same none bytes at = record {
  is = same ∙ none_filtered (row_meaning bytes (derivation (leaf head segment coding) all) head.dtype e) start bits none;
  known = each_none (IsKnownAt bytes (derivation (leaf head segment coding) all) head.dtype e) start bits none;
}

leaf_fault_at : (head : Head) (segment : ℕ) (coding : Coding) (these : List ℕ) (column : ColumnData) (e : Term) (row : ℕ) (bytes : Bytes) → decoded_as coding head.dtype head.rows these ≡ Some column.values → column.dtype ≡ head.dtype → bytes segment ≡ Some these → IsFaultOf column e row → IsFaultAt bytes (derivation (leaf head segment coding) all) head.dtype e row
leaf_fault_at head segment coding these column e row bytes read typed at fault =
    let has = leaf_is head segment coding these column.values bytes read at in
    let F : DataType → Type 0 = λ t. IsSomeAnd (slice_get column.values row) (λ v. root_meaning t e v ≡ None) in
    let G : Option (List Datum) → Type 0 = λ o. IsSomeAnd (option_and_then (λ (vs : List Datum). slice_get vs row) o) (λ v. root_meaning head.dtype e v ≡ None) in
    let here : G (Some column.values) = subst F typed fault in
    subst G (sym has) here

pub leaf_filter_fault : (head : Head) (segment : ℕ) (coding : Coding) (these : List ℕ) (column : ColumnData) (e : Term) (start first : ℕ) (bits : List Bool) (error : ReaderError) → decoded_as coding head.dtype head.rows these ≡ Some column.values → column.dtype ≡ head.dtype → IsFilterFault column e start first bits error → IsLeafFilterFault head segment coding these e start first bits error
leaf_filter_fault head segment coding these column e start first bits (EvalFault number) read typed fault = λ bytes at.
    (fault.0, fault.1, fault.2, leaf_fault_at head segment coding these column e (start + fault.0) bytes read typed at fault.3)
leaf_filter_fault head segment coding these column e start first bits Memory read typed fault = λ bytes at. tt
leaf_filter_fault head segment coding these column e start first bits ReadFault read typed fault = absurd fault
leaf_filter_fault head segment coding these column e start first bits (BadSegment other) read typed fault = absurd fault
leaf_filter_fault head segment coding these column e start first bits (BadCode node row) read typed fault = absurd fault
leaf_filter_fault head segment coding these column e start first bits (NoLocation other) read typed fault = absurd fault

-- ---- chunks

-- what a range of the mask keeps, behind what is kept so far
pub keeps_then : (reads : List SegmentRead) (r r2 : RowsBy) (t : DataType) (e : Term) (start row done end : ℕ) (mask kept more new : List Bool) → done ≤ end → end ≤ length mask → ((i : ℕ) → i < end - done → r (start + (done + i)) ≡ r2 (row + i)) → new ≡ kept ++ more →
    AreKeptBy reads r t e start (take done mask) kept → AreKeptBy reads r2 t e row (slice_range mask done end) more → AreKeptBy reads r t e start (take end mask) new
keeps_then reads r r2 t e start row done end mask kept more new forwards inside alike joined before now bytes have =
    let f : ℕ → Option Datum = row_meaning bytes r t e in
    let g : ℕ → Option Datum = row_meaning bytes r2 t e in
    let some : List Bool = slice_range mask done end in
    let long : length some ≡ end - done = length_between mask done end forwards inside in
    let k : done + (end - done) ≡ end = omega arith in
    let bits_are : take end mask ≡ take done mask ++ some = ap (λ (k : ℕ). take k mask) (sym k) ∙ range_is mask done (end - done) ∙ ap (λ (k : ℕ). take done mask ++ slice_range mask done k) k in
    let taken : length (take done mask) ≡ done = length-take-le done mask (omega arith) in
    let same : filtered f (start + done) some ≡ filtered g row some = filtered_same f g (start + done) row some (λ i less. (let at : start + done + i ≡ start + (done + i) = omega arith in ap f at ∙ ap (λ d. option_and_then (root_meaning t e) (derived (leaves_of bytes) d)) (alike i (omega arith)))) in
    let later : EachRow (IsKnownAt bytes r t e) (start + done) some = each_shift (IsKnownAt bytes r t e) (IsKnownAt bytes r2 t e) (start + done) row some (λ i less known. known_alike i (omega arith) known) (now bytes have).known in
    record {
      is =
          joined
          ∙ ap (λ (bits : List Bool). bits ++ more) (before bytes have).is
          ∙ ap (λ (bits : List Bool). filtered f start (take done mask) ++ bits) ((now bytes have).is ∙ sym same ∙ ap (λ (k : ℕ). filtered f (start + k) some) (sym taken))
          ∙ sym (filtered_append f start (take done mask) some)
          ∙ ap (filtered f start) (sym bits_are);
      known = subst (EachRow (IsKnownAt bytes r t e) start) (sym bits_are) (each_append (IsKnownAt bytes r t e) start (start + done) (take done mask) some (omega arith) (before bytes have).known later);
    }
  where
    known_alike : (i : ℕ) → i < end - done → IsKnownAt bytes r2 t e (row + i) → IsKnownAt bytes r t e (start + done + i)
    known_alike i less known =
        let at : start + (done + i) ≡ start + done + i = omega arith in
        subst (IsKnownAt bytes r t e) at (subst (λ d. IsKnown (root_meaning t e) (derived (leaves_of bytes) d)) (sym (alike i less)) known)

not_true : false ≡ true → ⊥
not_true e = cc

-- no fault is found in no rows
no_fault_in : (bytes : Bytes) (t : DataType) (e : Term) (forest : Forest) (start first number : ℕ) → FaultInChunks bytes t e forest start first [] number → ⊥
no_fault_in bytes t e no_trees start first number fault = fault
no_fault_in bytes t e (tree chunk rest) start first number (inl here) =
    let none : take ((head_of chunk).rows - start) [] ≡ [] = take_all ((head_of chunk).rows - start) [] (omega arith) in
    not_true (ap selects_some (sym none) ∙ here.0)
no_fault_in bytes t e (tree chunk rest) start first number (inr later) =
    no_fault_in bytes t e rest (start - (head_of chunk).rows) (first + ((head_of chunk).rows - start)) number
    (subst (λ (bits : List Bool). FaultInChunks bytes t e rest (start - (head_of chunk).rows) (first + ((head_of chunk).rows - start)) bits number) (drop_all ((head_of chunk).rows - start) [] (omega arith)) later)

-- a fault of the chunk whose rows are in the range is one of the chunks that are left
pub here_fault : (nodes : List Node) (ns : List ℕ) (place chunk row first done end : ℕ) (mask : List Bool) (bytes : Bytes) (t : DataType) (e : Term) (number : ℕ) → slice_get ns place ≡ Some chunk → IsHere mask done end ((tree_head nodes chunk).rows - row) → selects_some (slice_range mask done end) ≡ true → FaultIn bytes t e (subtree nodes chunk) row (first + done) (slice_range mask done end) number →
    FaultInChunks bytes t e (trees_of nodes (drop place ns)) row (first + done) (drop done mask) number
here_fault nodes ns place chunk row first done end mask bytes t e number at here some fault =
    let taken = range_taken mask done end ((tree_head nodes chunk).rows - row) here in
    subst (λ (ms : List ℕ). FaultInChunks bytes t e (trees_of nodes ms) row (first + done) (drop done mask) number) (sym (drop_at ns place chunk at))
    (inl (ap selects_some taken ∙ some, subst (λ (bits : List Bool). FaultIn bytes t e (subtree nodes chunk) row (first + done) bits number) (sym taken) fault))

-- and so is one of the chunks behind it
pub left_fault : (nodes : List Node) (ns : List ℕ) (place chunk row first done end : ℕ) (mask : List Bool) (bytes : Bytes) (t : DataType) (e : Term) (number : ℕ) → slice_get ns place ≡ Some chunk → IsHere mask done end ((tree_head nodes chunk).rows - row) →
    FaultInChunks bytes t e (trees_of nodes (drop (place + 1) ns)) (row - (tree_head nodes chunk).rows) (first + end) (drop end mask) number → FaultInChunks bytes t e (trees_of nodes (drop place ns)) row (first + done) (drop done mask) number
left_fault nodes ns place chunk row first done end mask bytes t e number at here fault =
    subst (λ (ms : List ℕ). FaultInChunks bytes t e (trees_of nodes ms) row (first + done) (drop done mask) number) (sym (drop_at ns place chunk at)) (inr (by (cases_lt end (length mask))))
  where
    by : (end < length mask) ⊎ (length mask ≤ end) → FaultInChunks bytes t e (trees_of nodes (drop (place + 1) ns)) (row - (tree_head nodes chunk).rows) (first + done + ((tree_head nodes chunk).rows - row)) (drop ((tree_head nodes chunk).rows - row) (drop done mask)) number
    by (inl lt) =
        let whole : end ≡ done + ((tree_head nodes chunk).rows - row) = here.whole lt in
        let same : first + end ≡ first + done + ((tree_head nodes chunk).rows - row) = omega arith in
        subst (λ (bits : List Bool). FaultInChunks bytes t e (trees_of nodes (drop (place + 1) ns)) (row - (tree_head nodes chunk).rows) (first + done + ((tree_head nodes chunk).rows - row)) bits number) (sym (range_left mask done end ((tree_head nodes chunk).rows - row) here))
        (subst (λ (k : ℕ). FaultInChunks bytes t e (trees_of nodes (drop (place + 1) ns)) (row - (tree_head nodes chunk).rows) k (drop end mask) number) same fault)
    by (inr le) = absurd (no_fault_in bytes t e (trees_of nodes (drop (place + 1) ns)) (row - (tree_head nodes chunk).rows) (first + end) number
        (subst (λ (bits : List Bool). FaultInChunks bytes t e (trees_of nodes (drop (place + 1) ns)) (row - (tree_head nodes chunk).rows) (first + end) bits number) (drop_all end mask le) fault))
