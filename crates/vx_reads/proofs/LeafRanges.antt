-- A leaf of which only the rows of a range are decoded: what is made of these is what is made of the leaf's.
use Rattle.std.proofs.Common.{◌≡◌, ℕ, zero, suc, ◌+◌, ◌-◌, ◌*◌, ◌<◌, ◌≤◌, ◌⊎◌, Bool, true, List, [], ◌∷◌, Option, Some, None, Result, Ok, Err, length, take, drop, refl, sym, ap, ◌∙◌, subst, arith}
use Rattle.std.specs.Prelude.{slice_range, option_and_then, option_map, IfErr, IfOk, IsSome, IsSomeAnd}
use Rattle.std.specs.List.{slice_get}
use Rattle.std.proofs.lemmas.List.{length-drop, length-take}
use Rattle.std.proofs.lemmas.Option.{same_Some}
use Rattle.vx_base.specs.declared.codings.Coding.{Coding}
use Rattle.vx_base.specs.CodingsRead.{decoded_as}
use Rattle.vx_base.specs.Columns.{ColumnData}
use Rattle.vx_base.specs.Data.{DataType, Datum}
use Rattle.vx_base.specs.Masks.{chosen, true_count}
use Rattle.vx_base.specs.RowsRead.{chosen_decoded, rows_decoded}
use Rattle.vx_expr.specs.Terms.{Term}
use Rattle.vx_rows.specs.Heads.{Head}
use Rattle.vx_picking.specs.RowFaults.{root_meaning}
use Rattle.vx_picking.proofs.SelectedRows.{dropped_at, picked_count}
use Rattle.vx_reads.specs.declared.errors.ReaderError.{ReaderError}
use Rattle.vx_reads.specs.declared.errors.ReaderError.TheVariants.{ReadFault, BadSegment, BadCode, EvalFault, NoLocation, Memory}
use Rattle.vx_reads.specs.Computed.{IsLeafBy}
use Rattle.vx_reads.specs.FilterFaults.{IsFilterFault}
use Rattle.vx_reads.specs.MaskRows.{IsLeafFilterFault, IsLeafKept}
use Rattle.vx_reads.specs.Truths.{column_meaning, filtered, AreWorth}
use Rattle.vx_reads.proofs.Computing.{leaf_long, leaf_read, leaf_rows}
use Rattle.vx_reads.proofs.Knowing.{each_shift}
use Rattle.vx_reads.proofs.MaskFilters.{filtered_same, leaf_filter_fault, leaf_kept}

-- the rows of the leaf, of which these are picked
record LeafPart (head : Head) (coding : Coding) (these : List ℕ) (pick : List Datum → List Datum) (part : List Datum) : Type 0 where
  pub all : List Datum
  pub whole : decoded_as coding head.dtype head.rows these ≡ Some all
  pub picked : part ≡ pick all

leaf_part : (head : Head) (t : DataType) (coding : Coding) (rows : ℕ) (these : List ℕ) (pick : List Datum → List Datum) (part : List Datum) → t ≡ head.dtype → rows ≡ head.rows → option_map pick (decoded_as coding t rows these) ≡ Some part → LeafPart head coding these pick part
leaf_part head t coding rows these pick part typed counted e = by (decoded_as coding t rows these) refl e
  where
    by : (o : Option (List Datum)) → decoded_as coding t rows these ≡ o → option_map pick o ≡ Some part → LeafPart head coding these pick part
    by None is none = absurd cc
    by (Some all) is some = record {
      all = all;
      whole = leaf_read head t coding rows these all typed counted is;
      picked = sym (same_Some (pick all) part some);
    }

-- ---- rows that a mask chooses
pub leaf_chosen : (head : Head) (segment : ℕ) (t : DataType) (coding : Coding) (rows : ℕ) (these : List ℕ) (start size : ℕ) (bits : List Bool) (out : List Datum) → t ≡ head.dtype → rows ≡ head.rows → size ≡ length bits → start + length bits ≤ head.rows → chosen_decoded coding t rows these start (start + size) bits ≡ Some out
    → IsLeafBy head segment coding these start bits out
leaf_chosen head segment t coding rows these start size bits out typed counted long inside e =
    let p = leaf_part head t coding rows these (λ (values : List Datum). chosen bits (slice_range values start (start + size))) out typed counted e in
    leaf_rows head segment coding these start bits p.all out p.whole inside (p.picked ∙ ap (λ (k : ℕ). chosen bits (slice_range p.all start (start + k))) long)

pub chosen_long : (head : Head) (t : DataType) (coding : Coding) (rows : ℕ) (these : List ℕ) (start size : ℕ) (bits : List Bool) (out : List Datum) → t ≡ head.dtype → rows ≡ head.rows → size ≡ length bits → start + length bits ≤ head.rows → chosen_decoded coding t rows these start (start + size) bits ≡ Some out → length out ≡ true_count bits
chosen_long head t coding rows these start size bits out typed counted long inside e =
    let p = leaf_part head t coding rows these (λ (values : List Datum). chosen bits (slice_range values start (start + size))) out typed counted e in
    ap length (p.picked ∙ ap (λ (k : ℕ). chosen bits (slice_range p.all start (start + k))) long) ∙ picked_count p.all start bits (omega (arith, leaf_long head coding these p.all p.whole, inside))

-- ---- rows of a range
pub range_long : (head : Head) (t : DataType) (coding : Coding) (rows : ℕ) (these : List ℕ) (start size : ℕ) (out : List Datum) → t ≡ head.dtype → rows ≡ head.rows → start + size ≤ head.rows → rows_decoded coding t rows these start (start + size) ≡ Some out → length out ≡ size
range_long head t coding rows these start size out typed counted inside e =
    let p = leaf_part head t coding rows these (λ (values : List Datum). slice_range values start (start + size)) out typed counted e in
    let count : length (slice_range p.all start (start + size)) ≡ size = omega (arith, length-take ((start + size) - start) (drop start p.all), length-drop start p.all, leaf_long head coding these p.all p.whole, inside) in
    ap length p.picked ∙ count

-- a row of the range is one of the leaf
row_of : (all part : List Datum) (start size k : ℕ) → part ≡ slice_range all start (start + size) → k < size → slice_get part (0 + k) ≡ slice_get all (start + k)
row_of all part start size k is less =
    let first : 0 + k ≡ k = omega arith in
    let count : (start + size) - start ≡ size = omega arith in
    ap (slice_get part) first ∙ ap (λ (vs : List Datum). slice_get vs k) is ∙ ap (λ (n : ℕ). slice_get (take n (drop start all)) k) count ∙ front (drop start all) size k less ∙ sym (dropped_at all start k)
  where
    front : (xs : List Datum) (n i : ℕ) → i < n → slice_get (take n xs) i ≡ slice_get xs i
    front xs zero i lt = absurd (omega arith)
    front [] (suc n) i lt = refl
    front (x ∷ xs) (suc n) zero lt = refl
    front (x ∷ xs) (suc n) (suc i) lt = front xs n i (omega arith)

-- the leaf's column, of the dtype of that of the range
abbrev of_all : ColumnData → List Datum → ColumnData
of_all column all = record { dtype = column.dtype; values = all }

means_same : (column : ColumnData) (all : List Datum) (e : Term) (start size k : ℕ) → column.values ≡ slice_range all start (start + size) → k < size → column_meaning column e (0 + k) ≡ column_meaning (of_all column all) e (start + k)
means_same column all e start size k is less = ap (option_and_then (root_meaning column.dtype e)) (row_of all column.values start size k is less)

pub range_kept : {E : Type 0} (result : Result (List Bool) E) (head : Head) (segment : ℕ) (t : DataType) (coding : Coding) (rows : ℕ) (these : List ℕ) (column : ColumnData) (e : Term) (start size : ℕ) (bits : List Bool) → t ≡ head.dtype → rows ≡ head.rows → column.dtype ≡ t → size ≡ length bits
    → rows_decoded coding t rows these start (start + size) ≡ Some column.values → IfOk result (λ kept. kept ≡ filtered (column_meaning column e) 0 bits) → IfOk result (λ kept. AreWorth (column_meaning column e) 0 bits) → IfOk result (IsLeafKept head segment coding these e start bits)
range_kept (Err error) head segment t coding rows these column e start size bits typed counted own long read is worth = tt
range_kept (Ok kept) head segment t coding rows these column e start size bits typed counted own long read is worth =
    let p = leaf_part head t coding rows these (λ (values : List Datum). slice_range values start (start + size)) column.values typed counted read in
    let part : column.values ≡ slice_range p.all start (start + length bits) = p.picked ∙ ap (λ (k : ℕ). slice_range p.all start (start + k)) long in
    let all = of_all column p.all in
    let same : (k : ℕ) → k < length bits → column_meaning column e (0 + k) ≡ column_meaning all e (start + k) = λ k less. means_same column p.all e start (length bits) k part less in
    leaf_kept head segment coding these all e start bits kept p.whole (own ∙ typed) (is ∙ filtered_same (column_meaning column e) (column_meaning all e) 0 start bits same)
    (each_shift (λ (row : ℕ). IsSome (column_meaning all e row)) (λ (row : ℕ). IsSome (column_meaning column e row)) start 0 bits (λ k less some. subst (λ (o : Option Datum). IsSome o) (same k less) some) worth)

there : (P : Bool → Type 0) (bits : List Bool) (place : ℕ) → IsSomeAnd (slice_get bits place) P → place < length bits
there P [] place some = absurd some
there P (bit ∷ bits) zero some = omega arith
there P (bit ∷ bits) (suc place) some = let later : place < length bits = there P bits place some in omega arith

fault_of : (column : ColumnData) (all : List Datum) (e : Term) (start first : ℕ) (bits : List Bool) (error : ReaderError) → column.values ≡ slice_range all start (start + length bits) → IsFilterFault column e 0 first bits error → IsFilterFault (of_all column all) e start first bits error
fault_of column all e start first bits (EvalFault number) part fault =
    let less : fault.0 < length bits = there (λ (bit : Bool). (bit ≡ true) ⊎ (length bits ≤ 5 * true_count bits)) bits fault.0 fault.1 in
    (fault.0, fault.1, fault.2, subst (λ (o : Option Datum). IsSomeAnd o (λ v. root_meaning column.dtype e v ≡ None)) (row_of all column.values start (length bits) fault.0 part less) fault.3)
fault_of column all e start first bits Memory part fault = tt
fault_of column all e start first bits ReadFault part fault = absurd fault
fault_of column all e start first bits (BadSegment other) part fault = absurd fault
fault_of column all e start first bits (BadCode node row) part fault = absurd fault
fault_of column all e start first bits (NoLocation other) part fault = absurd fault

pub range_fault : {X : Type 0} (result : Result X ReaderError) (head : Head) (segment : ℕ) (t : DataType) (coding : Coding) (rows : ℕ) (these : List ℕ) (column : ColumnData) (e : Term) (start size first : ℕ) (bits : List Bool) → t ≡ head.dtype → rows ≡ head.rows → column.dtype ≡ t → size ≡ length bits
    → rows_decoded coding t rows these start (start + size) ≡ Some column.values → IfErr result (IsFilterFault column e 0 first bits) → IfErr result (IsLeafFilterFault head segment coding these e start first bits)
range_fault (Ok made) head segment t coding rows these column e start size first bits typed counted own long read fault = tt
range_fault (Err error) head segment t coding rows these column e start size first bits typed counted own long read fault =
    let p = leaf_part head t coding rows these (λ (values : List Datum). slice_range values start (start + size)) column.values typed counted read in
    let part : column.values ≡ slice_range p.all start (start + length bits) = p.picked ∙ ap (λ (k : ℕ). slice_range p.all start (start + k)) long in
    leaf_filter_fault head segment coding these (of_all column p.all) e start first bits error p.whole (own ∙ typed) (fault_of column p.all e start first bits error part fault)
