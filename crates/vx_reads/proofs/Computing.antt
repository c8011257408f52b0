-- The column of selected rows, kind by kind, and the faults of ranges.
use Rattle.std.proofs.Common.{◌≡◌, ℕ, zero, suc, ◌+◌, ◌-◌, ◌<◌, ◌≤◌, inl, pos, negsuc, ◌≤ℤ◌, Bool, true, List, [], ◌∷◌, ◌++◌, Option, Some, None, length, map, take, replicate, refl, sym, ap, ◌∙◌, subst, arith, append_assoc, append-nil}
use Rattle.std.specs.Prelude.{slice_range, All, IsSomeAnd, IfSome, option_and_then}
use Rattle.std.specs.List.{slice_get, range_with_len, AllByRecursion}
use Rattle.std.proofs.lemmas.Grind.{flat_map-append}
use Rattle.std.proofs.lemmas.Int.{ints}
use Rattle.std.proofs.lemmas.List.{length-append, length-take-le, map-append, take_all}
use Rattle.std.proofs.lemmas.Option.{slice_get_within}
use Rattle.vx_base.specs.declared.codings.Coding.{Coding}
use Rattle.vx_base.specs.Columns.{ColumnData}
use Rattle.vx_base.specs.Data.{DataType, Datum, null, truth, number, text, structure}
use Rattle.vx_base.specs.Masks.{chosen, true_count}
use Rattle.vx_base.specs.CodingsRead.{decoded_as}
use Rattle.vx_expr.specs.Types.{on_both}
use Rattle.vx_layout.specs.Kept.{all}
use Rattle.vx_layout.specs.Rows.{derivation}
use Rattle.vx_layout.specs.Trees.{Tree, leaf, dict, head_of}
use Rattle.vx_layout.proofs.TreeRows.{read_by_code, read_by_value}
use Rattle.vx_rows.specs.Derivations.{Derivation, each_row, look_up, derived, derived_each, derivation_count}
use Rattle.vx_rows.specs.Heads.{Head}
use Rattle.vx_rows.specs.Reads.{directly, inside, Found, reads_of, Finds, IsPlaceAmong}
use Rattle.vx_rows.specs.SegmentLeaves.{Bytes, leaves_of}
use Rattle.vx_rows.proofs.ByteLeaves.{give_each_row}
use Rattle.vx_rows.proofs.ReadRows.{found_anywhere, Meets}
use Rattle.vx_picking.specs.declared.errors.LookUpError.{LookUpError}
use Rattle.vx_picking.specs.declared.errors.LookUpError.TheVariants as looked
use Rattle.vx_reads.specs.declared.errors.ReaderError.{ReaderError}
use Rattle.vx_reads.specs.Errors.{look_up_fault}
use Rattle.vx_reads.specs.declared.errors.ReaderError.TheVariants.{ReadFault, BadSegment, BadCode, EvalFault, NoLocation, Memory}
use Rattle.vx_reads.specs.declared.reads.SegmentRead.{SegmentRead}
use Rattle.vx_reads.specs.Reads.{HaveBytes}
use Rattle.vx_reads.specs.Computed.{values_in, row_value, RowsBy, RangeFinds, IsTornIn, IsBadCodeAt, HasCause, AreRowsBy, Fails, AddsRows, IsLeafBy, IsLeafFault}
use Rattle.vx_picking.specs.RowFaults.{IsCodeFault, IsPastCode}
use Rattle.vx_picking.specs.Rows.{rows_of, AreOf}
use Rattle.vx_picking.proofs.MaskRanges.{count_more, length_between, range_is}
use Rattle.vx_picking.proofs.PickedValues.{chosen_all}
use Rattle.vx_picking.proofs.SelectedRows.{map_same, picked_rows, row_bit, rows_all, rows_append, rows_same, then_rows, value_row}

-- ---- faults

-- what some row of the one range finds, some row of the other does
abbrev pub FindsUp : RowsBy → ℕ → ℕ → RowsBy → ℕ → ℕ → Type 1
FindsUp r start count r2 start2 count2 = (P : Found → Type 0) → RangeFinds P r start count → RangeFinds P r2 start2 count2

pub cause_up : (bytes : Bytes) (r : RowsBy) (start count : ℕ) (r2 : RowsBy) (start2 count2 : ℕ) → FindsUp r start count r2 start2 count2 → (fault : ReaderError) → HasCause bytes r start count fault → HasCause bytes r2 start2 count2 fault
cause_up bytes r start count r2 start2 count2 up (BadSegment segment) h = up (IsTornIn bytes segment) h
cause_up bytes r start count r2 start2 count2 up (BadCode node row) h = up (IsBadCodeAt bytes node row) h
cause_up bytes r start count r2 start2 count2 up Memory h = tt
cause_up bytes r start count r2 start2 count2 up ReadFault h = h
cause_up bytes r start count r2 start2 count2 up (EvalFault row) h = h
cause_up bytes r start count r2 start2 count2 up (NoLocation segment) h = h

pub fails_up : (reads : List SegmentRead) (r : RowsBy) (start count : ℕ) (r2 : RowsBy) (start2 count2 : ℕ) → FindsUp r start count r2 start2 count2 → (fault : ReaderError) → Fails reads r start count fault → Fails reads r2 start2 count2 fault
fails_up reads r start count r2 start2 count2 up fault fails bytes have = cause_up bytes r start count r2 start2 count2 up fault (fails bytes have)

-- the rows of a range that lie so far behind the first one
pub finds_in_range : (r r2 : RowsBy) (start row done end count : ℕ) → end ≤ count → ((i : ℕ) → i < end - done → r (start + (done + i)) ≡ r2 (row + i)) → FindsUp r2 row (end - done) r start count
finds_in_range r r2 start row done end count inside alike P finds =
    (done + finds.0, omega (arith, finds.1), subst (λ (d : Derivation). Finds P (reads_of directly d)) (sym (alike finds.0 finds.1)) finds.2)

-- ---- columns behind others

all_behind : (P : ColumnData → Type 0) (xs ys : List ColumnData) → AllByRecursion P xs → AllByRecursion P ys → AllByRecursion P (xs ++ ys)
all_behind P [] ys left right = right
all_behind P (x ∷ xs) ys left right = (left.0, all_behind P xs ys left.1 right)

pub adds_then : (reads : List SegmentRead) (t : DataType) (r r2 : RowsBy) (start row done end : ℕ) (mask : List Bool) (old parts new : List ColumnData) → done ≤ end → end ≤ length mask → ((i : ℕ) → i < end - done → r (start + (done + i)) ≡ r2 (row + i)) →
    AddsRows reads t r start (take done mask) old parts → AddsRows reads t r2 row (slice_range mask done end) parts new → AddsRows reads t r start (take end mask) old new
adds_then reads t r r2 start row done end mask old parts new forwards inside alike first second =
    let joined : values_in (first.more ++ second.more) ≡ values_in first.more ++ values_in second.more = flat_map-append (λ (p : ColumnData). p.values) first.more second.more in
    let e : done + (end - done) ≡ end = omega arith in
    let some : List Bool = slice_range mask done end in
    let bits_are : take end mask ≡ take done mask ++ some = ap (λ (k : ℕ). take k mask) (sym e) ∙ range_is mask done (end - done) ∙ ap (λ (k : ℕ). take done mask ++ slice_range mask done k) e in
    let count : true_count (take end mask) ≡ true_count (take done mask) + true_count some = ap (λ (k : ℕ). true_count (take k mask)) (sym e) ∙ count_more mask done (end - done) ∙ ap (λ (k : ℕ). true_count (take done mask) + true_count (slice_range mask done k)) e in
    record {
      more = first.more ++ second.more;
      parts = second.parts ∙ ap (λ (xs : List ColumnData). xs ++ second.more) first.parts ∙ append_assoc old first.more second.more;
      dtypes = all_behind (λ (part : ColumnData). part.dtype ≡ t) first.more second.more first.dtypes second.dtypes;
      rows = omega (arith, ap length joined, length-append (values_in first.more) (values_in second.more), first.rows, second.rows, count);
      values = λ bytes have. both bytes joined bits_are (first.values bytes have) (second.values bytes have);
    }
  where
    both : (bytes : Bytes) → values_in (first.more ++ second.more) ≡ values_in first.more ++ values_in second.more → take end mask ≡ take done mask ++ slice_range mask done end → AreOf (row_value bytes r) (rows_of start (take done mask)) (values_in first.more) → AreOf (row_value bytes r2) (rows_of row (slice_range mask done end)) (values_in second.more) → AreOf (row_value bytes r) (rows_of start (take end mask)) (values_in (first.more ++ second.more))
    both bytes joined bits_are before now =
        let f : ℕ → Option Datum = row_value bytes r in
        let g : ℕ → Option Datum = row_value bytes r2 in
        let some : List Bool = slice_range mask done end in
        let long : length some ≡ end - done = length_between mask done end forwards inside in
        let rows : rows_of start (take end mask) ≡ rows_of start (take done mask) ++ rows_of (start + done) some = ap (rows_of start) bits_are ∙ rows_append start (take done mask) some ∙ ap (λ (k : ℕ). rows_of start (take done mask) ++ rows_of (start + k) some) (length-take-le done mask (omega arith)) in
        let same : map f (rows_of (start + done) some) ≡ map g (rows_of row some) = rows_same f g (start + done) row some (λ k less. (let at : start + done + k ≡ start + (done + k) = omega arith in ap f at ∙ ap (derived (leaves_of bytes)) (alike k (omega arith)))) in
        ap (map f) rows ∙ map-append f (rows_of start (take done mask)) (rows_of (start + done) some) ∙ ap (λ (vs : List (Option Datum)). vs ++ map f (rows_of (start + done) some)) before ∙ ap (λ (vs : List (Option Datum)). map Some (values_in first.more) ++ vs) (same ∙ now)
        ∙ sym (map-append Some (values_in first.more) (values_in second.more)) ∙ ap (map Some) (sym joined)

pub adds_none : (reads : List SegmentRead) (t : DataType) (r : RowsBy) (start : ℕ) (bits : List Bool) (parts : List ColumnData) → rows_of start bits ≡ [] → true_count bits ≡ 0 → AddsRows reads t r start bits parts parts
adds_none reads t r start bits parts none count = record {
  more = [];
  parts = sym (append-nil parts);
  dtypes = tt;
  rows = sym count;
  values = λ bytes have. ap (map (row_value bytes r)) none;
}

-- Columns of the dtype have the values of the selected rows.
pub record AreColumnsOf (reads : List SegmentRead) (t : DataType) (r : RowsBy) (start : ℕ) (bits : List Bool) (parts : List ColumnData) : Type 0 where
  pub dtypes : AllByRecursion (λ part. part.dtype ≡ t) parts
  pub rows : length (values_in parts) ≡ true_count bits
  pub values : AreRowsBy reads r start bits (values_in parts)

-- where none stood before them
pub only_added : (reads : List SegmentRead) (t : DataType) (r : RowsBy) (start : ℕ) (bits : List Bool) (old new : List ColumnData) → old ≡ [] → AddsRows reads t r start bits old new → AreColumnsOf reads t r start bits new
only_added reads t r start bits old new none added =
    let same : new ≡ added.more = added.parts ∙ ap (λ (xs : List ColumnData). xs ++ added.more) none in
    record {
      dtypes = subst (AllByRecursion (λ (part : ColumnData). part.dtype ≡ t)) (sym same) added.dtypes;
      rows = ap (λ (xs : List ColumnData). length (values_in xs)) same ∙ added.rows;
      values = subst (λ (xs : List ColumnData). AreRowsBy reads r start bits (values_in xs)) (sym same) added.values;
    }

pub adds_one : (reads : List SegmentRead) (t : DataType) (r : RowsBy) (start : ℕ) (bits : List Bool) (parts new : List ColumnData) (part : ColumnData) → new ≡ parts ++ part ∷ [] → part.dtype ≡ t → length part.values ≡ true_count bits → AreRowsBy reads r start bits part.values → AddsRows reads t r start bits parts new
adds_one reads t r start bits parts new part pushed dtype rows values =
    let one : values_in (part ∷ []) ≡ part.values = append-nil part.values in
    record {
      more = part ∷ [];
      parts = pushed;
      dtypes = (dtype, tt);
      rows = ap length one ∙ rows;
      values = λ bytes have. values bytes have ∙ ap (map Some) (sym one);
    }

-- ---- a leaf

pub leaf_is : (head : Head) (segment : ℕ) (coding : Coding) (these : List ℕ) (values : List Datum) (bytes : Bytes) → decoded_as coding head.dtype head.rows these ≡ Some values → bytes segment ≡ Some these → leaves_of bytes head.dtype coding head.rows segment ≡ Some values
leaf_is head segment coding these values bytes read at = ap (option_and_then (decoded_as coding head.dtype head.rows)) at ∙ read

pub leaf_long : (head : Head) (coding : Coding) (these : List ℕ) (values : List Datum) → decoded_as coding head.dtype head.rows these ≡ Some values → length values ≡ head.rows
leaf_long head coding these values read =
    subst (λ (o : Option (List Datum)). IfSome o (λ values. length values ≡ head.rows)) read (give_each_row (λ _. Some these) head.dtype coding head.rows 0)

pub leaf_read : (head : Head) (t : DataType) (coding : Coding) (rows : ℕ) (these : List ℕ) (values : List Datum) → t ≡ head.dtype → rows ≡ head.rows → decoded_as coding t rows these ≡ Some values → decoded_as coding head.dtype head.rows these ≡ Some values
leaf_read head t coding rows these values typed counted read = ap (λ (s : DataType). decoded_as coding s head.rows these) (sym typed) ∙ ap (λ (k : ℕ). decoded_as coding t k these) (sym counted) ∙ read

pub leaf_rows : (head : Head) (segment : ℕ) (coding : Coding) (these : List ℕ) (start : ℕ) (bits : List Bool) (values out : List Datum) → decoded_as coding head.dtype head.rows these ≡ Some values → start + length bits ≤ head.rows → out ≡ chosen bits (slice_range values start (start + length bits)) → IsLeafBy head segment coding these start bits out
leaf_rows head segment coding these start bits values out read inside picked bytes at =
    let has = leaf_is head segment coding these values bytes read at in
    map_same (row_value bytes (derivation (leaf head segment coding) all)) (slice_get values) (λ row. ap (option_and_then (λ (vs : List Datum). slice_get vs row)) has) (rows_of start bits)
    ∙ picked_rows values start bits (omega (arith, leaf_long head coding these values read)) ∙ ap (map Some) (sym picked)

-- all rows of a column, where each is selected
pub whole_picked : (values : List Datum) (start : ℕ) (bits : List Bool) → All (λ bit. bit ≡ true) bits → length values ≡ length bits → start + length bits ≤ length values → values ≡ chosen bits (slice_range values start (start + length bits))
whole_picked values start bits every long inside =
    let first : start ≡ 0 = omega arith in
    let k : 0 + length bits - 0 ≡ length bits = omega arith in
    let range : slice_range values 0 (0 + length bits) ≡ values = ap (λ (n : ℕ). take n values) k ∙ take_all (length bits) values (omega arith) in
    sym (ap (λ (n : ℕ). chosen bits (slice_range values n (n + length bits))) first ∙ ap (chosen bits) range ∙ chosen_all bits values every long)

pub leaf_none : (head : Head) (segment : ℕ) (coding : Coding) (these : List ℕ) (start : ℕ) (bits : List Bool) (out : List Datum) → rows_of start bits ≡ [] → length out ≡ 0 → IsLeafBy head segment coding these start bits out
leaf_none head segment coding these start bits [] none empty bytes at = ap (map (row_value bytes (derivation (leaf head segment coding) all))) none
leaf_none head segment coding these start bits (v ∷ out) none empty bytes at = absurd (omega arith)

pub leaf_torn : (head : Head) (segment : ℕ) (coding : Coding) (these : List ℕ) (start count : ℕ) → decoded_as coding head.dtype head.rows these ≡ None → 0 < count → IsLeafFault head segment coding these start count (BadSegment segment)
leaf_torn head segment coding these start count unread some bytes at =
    (0, some, inl (refl, subst (λ (o : Option (List ℕ)). IsSomeAnd o (λ found. decoded_as coding head.dtype head.rows found ≡ None)) (sym at) unread))

-- ---- a dictionary

gathered : (bytes : Bytes) (f : ℕ → Derivation) (from count : ℕ) (values : List Datum) → map (λ row. derived (leaves_of bytes) (f row)) (range_with_len from count) ≡ map Some values → derived_each (leaves_of bytes) (each_row f from count) ≡ Some values
gathered bytes f from zero [] are = refl
gathered bytes f from zero (v ∷ values) are = absurd cc
gathered bytes f from (suc count) [] are = absurd cc
gathered bytes f from (suc count) (v ∷ values) are =
    let p : derived (leaves_of bytes) (f from) ≡ Some v = cc in
    let rest : map (λ row. derived (leaves_of bytes) (f row)) (range_with_len (from + 1) count) ≡ map Some values = cc in
    let q : derived_each (leaves_of bytes) (each_row f (from + 1) count) ≡ Some values = gathered bytes f (from + 1) count values rest in
    rw (p, q) refl

-- all values of a dictionary, row by row
pub whole_values : (reads : List SegmentRead) (values : Tree) (vs : List Datum) (bytes : Bytes) → HaveBytes bytes reads → AreRowsBy reads (derivation values all) 0 (replicate (head_of values).rows true) vs → derived_each (leaves_of bytes) (each_row (derivation values all) 0 (head_of values).rows) ≡ Some vs
whole_values reads values vs bytes have valued =
    gathered bytes (derivation values all) 0 (head_of values).rows vs (ap (map (row_value bytes (derivation values all))) (sym (rows_all 0 (head_of values).rows)) ∙ valued bytes have)

look_row : (vs : List Datum) (whole : Option (List Datum)) → whole ≡ Some vs → (code : Option Datum) (v : Datum) → code ≡ Some v → on_both look_up whole code ≡ look_up vs v
look_row vs whole is code v at = ap (λ (w : Option (List Datum)). on_both look_up w code) is ∙ ap (on_both look_up (Some vs)) at

pub dict_rows : (reads : List SegmentRead) (head : Head) (values codes : Tree) (start : ℕ) (bits : List Bool) (cs vs out : List Datum) → AreRowsBy reads (derivation codes all) start bits cs → AreRowsBy reads (derivation values all) 0 (replicate (head_of values).rows true) vs → map (look_up vs) cs ≡ map Some out → AreRowsBy reads (derivation (dict head values codes) all) start bits out
dict_rows reads head values codes start bits cs vs out coded valued looked bytes have =
    let whole : derived_each (leaves_of bytes) (each_row (derivation values all) 0 (head_of values).rows) ≡ Some vs = whole_values reads values vs bytes have valued in
    then_rows (row_value bytes (derivation codes all)) (row_value bytes (derivation (dict head values codes) all)) (look_up vs)
    (λ row v at. look_row vs (derived_each (leaves_of bytes) (each_row (derivation values all) 0 (head_of values).rows)) whole (row_value bytes (derivation codes all) row) v at)
    (rows_of start bits) cs out (coded bytes have) looked

pub codes_fail : (head : Head) (values codes : Tree) (start count : ℕ) → FindsUp (derivation codes all) start count (derivation (dict head values codes) all) start count
codes_fail head values codes start count P finds = (finds.0, finds.1, read_by_code (Meets P) head values codes all directly (start + finds.0) finds.2)

pub values_fail : (head : Head) (values codes : Tree) (start count rows : ℕ) → rows ≤ (head_of values).rows → 0 < count → FindsUp (derivation values all) 0 rows (derivation (dict head values codes) all) start count
values_fail head values codes start count rows few some P finds =
    (0, some, read_by_value (Meets P) head values codes all directly (start + 0) (0 + finds.0) (omega (arith, finds.1)) (found_anywhere P directly (inside head.number directly) (derivation values all (0 + finds.0)) finds.2))

past_code : (count : ℕ) (v : Datum) → IsPastCode count v → IsPlaceAmong count v → ⊥
past_code count null past among = past
past_code count (truth b) past among = past
past_code count (number (pos place)) past among = let a : pos count ≤ℤ pos place = past in omega (arith, ints)
past_code count (number (negsuc n)) past among = among
past_code count (text bytes) past among = past
past_code count (structure vs) past among = past

count_each : (f : ℕ → Derivation) (from count : ℕ) → derivation_count (each_row f from count) ≡ count
count_each f from zero = refl
count_each f from (suc count) = ap suc (count_each f (from + 1) count)

abbrev IsNoPlace : ℕ → Option Datum → Type 0
IsNoPlace count o = IsSomeAnd o (λ code. ¬ (IsPlaceAmong count code))

pub code_fault : (reads : List SegmentRead) (head : Head) (values codes : Tree) (start : ℕ) (bits : List Bool) (cs : List Datum) (count : ℕ) (fault : LookUpError) → AreRowsBy reads (derivation codes all) start bits cs → count ≡ (head_of values).rows → IsCodeFault count cs start bits fault → Fails reads (derivation (dict head values codes) all) start (length bits) (look_up_fault head.number fault)
code_fault reads head values codes start bits cs count (looked.BadCode row) coded many fault bytes have = at_place (slice_get cs fault.0) refl fault.1
  where
    at_place : (o : Option Datum) → slice_get cs fault.0 ≡ o → IsSomeAnd o (IsPastCode count) → RangeFinds (IsBadCodeAt bytes head.number row) (derivation (dict head values codes) all) start (length bits)
    at_place None e past = absurd past
    at_place (Some v) e past =
        let r = value_row (row_value bytes (derivation codes all)) (rows_of start bits) cs (coded bytes have) fault.0 v e in
        let b = row_bit start bits fault.0 r.0 r.1 in
        let named : row ≡ r.0 = fault.2 r.0 r.1 in
        let same : start + b.0 ≡ row = sym b.2 ∙ sym named in
        let counted : count ≡ derivation_count (each_row (derivation values all) 0 (head_of values).rows) = many ∙ sym (count_each (derivation values all) 0 (head_of values).rows) in
        let G : ℕ → Type 0 = λ k. IsNoPlace (derivation_count (each_row (derivation values all) 0 (head_of values).rows)) (row_value bytes (derivation codes all) k) in
        let C : ℕ → Type 0 = λ count. IsNoPlace count (Some v) in
        let bad : C count = λ among. past_code count v past among in
        let here : G r.0 = subst (IsNoPlace (derivation_count (each_row (derivation values all) 0 (head_of values).rows))) (sym r.2) (subst C counted bad) in
        (b.0, slice_get_within bits b.0 true b.1, inl ((refl, same), subst G b.2 here))
code_fault reads head values codes start bits cs count looked.Memory coded many fault bytes have = tt
