-- At which row of a column an expression is a fault, that was worked out at some of its rows.
use Rattle.std.proofs.Common.{◌≡◌, ℕ, zero, suc, ◌+◌, ◌*◌, ◌<◌, ◌≤◌, ◌⊎◌, inl, inr, Bool, true, false, List, [], ◌∷◌, Option, Some, None, Result, Ok, Err, length, map, replicate, refl, sym, ap, ◌∙◌, subst, arith}
use Rattle.std.specs.Prelude.{slice_range, IfErr, IsSomeAnd}
use Rattle.std.specs.List.{slice_get}
use Rattle.std.proofs.lemmas.Option.{slice_get_within}
use Rattle.vx_base.specs.Columns.{ColumnData}
use Rattle.vx_base.specs.Data.{DataType, Datum}
use Rattle.vx_base.specs.Masks.{chosen, true_count}
use Rattle.vx_expr.specs.declared.applying.ApplyError.{ApplyError}
use Rattle.vx_expr.specs.declared.applying.ApplyError.TheVariants as applied
use Rattle.vx_expr.specs.Terms.{Term}
use Rattle.vx_picking.specs.declared.errors.LookUpError.{LookUpError}
use Rattle.vx_picking.specs.declared.errors.LookUpError.TheVariants as looked
use Rattle.vx_picking.specs.RowFaults.{root_meaning, IsCodeFault, IsEvalFault}
use Rattle.vx_picking.specs.Rows.{rows_of, AreOf}
use Rattle.vx_picking.proofs.SelectedRows.{picked_rows, value_row}
use Rattle.vx_reads.specs.Errors.{apply_fault, look_up_fault}
use Rattle.vx_reads.specs.declared.errors.ReaderError.{ReaderError}
use Rattle.vx_reads.specs.declared.errors.ReaderError.TheVariants.{ReadFault, BadSegment, BadCode, EvalFault, NoLocation, Memory}
use Rattle.vx_reads.specs.FilterFaults.{IsColumnFault, IsFaultOf, IsFilterFault, IsPushedFault}

-- one place among the selected rows of two ranges under one mask
pub row_of_both : (start first : ℕ) (bits : List Bool) (place row : ℕ) → slice_get (rows_of start bits) place ≡ Some row → (bit : ℕ) × (slice_get bits bit ≡ Some true) × (row ≡ start + bit) × (slice_get (rows_of first bits) place ≡ Some (first + bit))
row_of_both start first [] place row at = absurd cc
row_of_both start first (true ∷ bits) zero row at =
    let same : start ≡ row = cc in
    (0, refl, omega arith, ap Some (omega arith))
row_of_both start first (true ∷ bits) (suc place) row at =
    let b = row_of_both (start + 1) (first + 1) bits place row at in
    (suc b.0, b.1, omega (arith, b.2), b.3 ∙ ap Some (omega arith))
row_of_both start first (false ∷ bits) place row at =
    let b = row_of_both (start + 1) (first + 1) bits place row at in
    (suc b.0, b.1, omega (arith, b.2), b.3 ∙ ap Some (omega arith))

pub column_fault_told : (column root : ColumnData) (e : Term) (start first : ℕ) (bits : List Bool) (error : ApplyError) → root.dtype ≡ column.dtype → root.values ≡ chosen bits (slice_range column.values start (start + length bits)) → start + length bits ≤ length column.values → IsEvalFault root.dtype e root.values first bits error → IsColumnFault column e start first bits (apply_fault error)
column_fault_told column root e start first bits applied.Memory typed picked inside fault = tt
column_fault_told column root e start first bits (applied.EvalFault number) typed picked inside fault =
    by (slice_get root.values fault.0) refl (subst F typed fault.1)
  where
    F : DataType → Type 0
    F t = IsSomeAnd (slice_get root.values fault.0) (λ v. root_meaning t e v ≡ None)

    by : (o : Option Datum) → slice_get root.values fault.0 ≡ o → IsSomeAnd o (λ v. root_meaning column.dtype e v ≡ None) → IsColumnFault column e start first bits (apply_fault (applied.EvalFault number))
    by None at none = absurd none
    by (Some v) at none =
        let are : AreOf (slice_get column.values) (rows_of start bits) root.values = picked_rows column.values start bits inside ∙ ap (map Some) (sym picked) in
        let w = value_row (slice_get column.values) (rows_of start bits) root.values are fault.0 v at in
        let b = row_of_both start first bits fault.0 w.0 w.1 in
        let named : number ≡ first + b.0 = fault.2 (first + b.0) b.3 in
        let there : slice_get column.values (start + b.0) ≡ Some v = ap (slice_get column.values) (sym b.2) ∙ w.2 in
        (b.0, b.1, sym named, subst (λ (o : Option Datum). IsSomeAnd o (λ v. root_meaning column.dtype e v ≡ None)) (sym there) none)

-- ---- where a filter works it out

pub sparse_fault : (column : ColumnData) (e : Term) (start first : ℕ) (bits : List Bool) (error : ReaderError) → IsColumnFault column e start first bits error → IsFilterFault column e start first bits error
sparse_fault column e start first bits (EvalFault number) fault =
    (fault.0, subst (λ (o : Option Bool). IsSomeAnd o (λ bit. (bit ≡ true) ⊎ (length bits ≤ 5 * true_count bits))) (sym fault.1) (inl refl), fault.2, fault.3)
sparse_fault column e start first bits Memory fault = tt
sparse_fault column e start first bits ReadFault fault = absurd fault
sparse_fault column e start first bits (BadSegment segment) fault = absurd fault
sparse_fault column e start first bits (BadCode node row) fault = absurd fault
sparse_fault column e start first bits (NoLocation segment) fault = absurd fault

bit_there : (bits : List Bool) (place : ℕ) (P : Bool → Type 0) → ((bit : Bool) → P bit) → slice_get (replicate (length bits) true) place ≡ Some true → IsSomeAnd (slice_get bits place) P
bit_there [] place P all at = absurd cc
bit_there (bit ∷ bits) zero P all at = all bit
bit_there (bit ∷ bits) (suc place) P all at = bit_there bits place P all at

pub dense_fault : (column : ColumnData) (e : Term) (start first : ℕ) (bits : List Bool) (error : ReaderError) → length bits ≤ 5 * true_count bits → IsColumnFault column e start first (replicate (length bits) true) error → IsFilterFault column e start first bits error
dense_fault column e start first bits (EvalFault number) many fault =
    (fault.0, bit_there bits fault.0 (λ bit. (bit ≡ true) ⊎ (length bits ≤ 5 * true_count bits)) (λ bit. inr many) fault.1, fault.2, fault.3)
dense_fault column e start first bits Memory many fault = tt
dense_fault column e start first bits ReadFault many fault = absurd fault
dense_fault column e start first bits (BadSegment segment) many fault = absurd fault
dense_fault column e start first bits (BadCode node row) many fault = absurd fault
dense_fault column e start first bits (NoLocation segment) many fault = absurd fault

pub sparse_result : {X : Type 0} (result : Result X ReaderError) (column : ColumnData) (e : Term) (start first : ℕ) (bits : List Bool) → IfErr result (IsColumnFault column e start first bits) → IfErr result (IsFilterFault column e start first bits)
sparse_result (Ok kept) column e start first bits fault = tt
sparse_result (Err error) column e start first bits fault = sparse_fault column e start first bits error fault

pub dense_result : {X : Type 0} (result : Result X ReaderError) (column : ColumnData) (e : Term) (start first : ℕ) (bits : List Bool) → length bits ≤ 5 * true_count bits → IfErr result (IsColumnFault column e start first (replicate (length bits) true)) → IfErr result (IsFilterFault column e start first bits)
dense_result (Ok kept) column e start first bits many fault = tt
dense_result (Err error) column e start first bits many fault = dense_fault column e start first bits error many fault

-- ---- over the values of a dictionary

-- a place among all rows
pub all_row : (start count place : ℕ) → place < count → slice_get (rows_of start (replicate count true)) place ≡ Some (start + place)
all_row start zero place lt = absurd (omega arith)
all_row start (suc count) zero lt = let e : start ≡ start + 0 = omega arith in ap Some e
all_row start (suc count) (suc place) lt = let e : start + 1 + place ≡ start + suc place = omega arith in all_row (start + 1) count place (omega arith) ∙ ap Some e

some_within : (vs : List Datum) (place : ℕ) (P : Datum → Type 0) (o : Option Datum) → slice_get vs place ≡ o → IsSomeAnd o P → place < length vs
some_within vs place P None at some = absurd some
some_within vs place P (Some v) at some = slice_get_within vs place v at

pub pushed_worked : (values : ColumnData) (e : Term) (codes : List Datum) (start : ℕ) (bits : List Bool) (dictionary : ℕ) (every : List Bool) (error : ApplyError) → every ≡ replicate (length values.values) true → IsEvalFault values.dtype e values.values 0 every error → IsPushedFault values e codes start bits dictionary (apply_fault error)
pushed_worked values e codes start bits dictionary every applied.Memory all fault = tt
pushed_worked values e codes start bits dictionary every (applied.EvalFault row) all fault =
    let inside : fault.0 < length values.values = some_within values.values fault.0 (λ v. root_meaning values.dtype e v ≡ None) (slice_get values.values fault.0) refl fault.1 in
    let there : slice_get (rows_of 0 every) fault.0 ≡ Some (0 + fault.0) = ap (λ (bits : List Bool). slice_get (rows_of 0 bits) fault.0) all ∙ all_row 0 (length values.values) fault.0 inside in
    let named : row ≡ 0 + fault.0 = fault.2 (0 + fault.0) there in
    let same : fault.0 ≡ row = omega arith in
    subst (IsFaultOf values e) same fault.1

pub pushed_looked : (values : ColumnData) (e : Term) (codes : List Datum) (start : ℕ) (bits : List Bool) (dictionary count : ℕ) (error : LookUpError) → count ≡ length values.values → IsCodeFault count codes start bits error → IsPushedFault values e codes start bits dictionary (look_up_fault dictionary error)
pushed_looked values e codes start bits dictionary count looked.Memory same fault = tt
pushed_looked values e codes start bits dictionary count (looked.BadCode row) same fault = (refl, subst (λ (k : ℕ). IsCodeFault k codes start bits (looked.BadCode row)) same fault)
