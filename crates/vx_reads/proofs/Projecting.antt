-- An expression over the column of selected rows.
use Rattle.std.proofs.Common.{◌≡◌, ℕ, Bool, true, List, Option, Some, None, map, length, refl, sym, ap, ◌∙◌, subst}
use Rattle.std.specs.Prelude.{IsSomeAnd, IsTrue, option_and_then}
use Rattle.std.specs.List.{slice_get}
use Rattle.std.proofs.lemmas.List.{length-map}
use Rattle.vx_base.specs.Data.{DataType, Datum}
use Rattle.vx_expr.specs.Bound.{Bound, IsBoundTo}
use Rattle.vx_expr.specs.Mentions.{is_root, uses_root}
use Rattle.vx_expr.specs.Terms.{Term, root}
use Rattle.vx_expr.specs.Types.{type_of}
use Rattle.vx_rows.specs.SegmentLeaves.{Bytes}
use Rattle.vx_expr.specs.declared.applying.ApplyError.{ApplyError}
use Rattle.vx_expr.specs.declared.applying.ApplyError.TheVariants as applied
use Rattle.vx_reads.specs.declared.errors.ReaderError.{ReaderError}
use Rattle.vx_reads.specs.Errors.{apply_fault}
use Rattle.vx_reads.specs.declared.errors.ReaderError.TheVariants.{ReadFault, BadSegment, BadCode, EvalFault, NoLocation, Memory}
use Rattle.vx_reads.specs.declared.reads.SegmentRead.{SegmentRead}
use Rattle.vx_reads.specs.Computed.{row_value, AreRowsBy, Fails, RowsBy}
use Rattle.vx_reads.specs.Projected.{row_meaning, IsFaultAt, AreProjectedBy, ProjectionCause, ProjectionFails}
use Rattle.vx_reads.specs.Reads.{HaveBytes}
use Rattle.vx_picking.specs.RowFaults.{root_meaning, IsEvalFault, IsRowAt}
use Rattle.vx_picking.specs.Rows.{rows_of}
use Rattle.vx_picking.proofs.SelectedRows.{row_bit, then_rows, value_row}

pub projected_values : (reads : List SegmentRead) (r : RowsBy) (t s : DataType) (e : Term) (start : ℕ) (bits : List Bool) (values out : List Datum) → t ≡ s → AreRowsBy reads r start bits values → map (root_meaning t e) values ≡ map Some out → AreProjectedBy reads r s e start bits out
projected_values reads r t s e start bits values out same are worked =
    subst (λ (s : DataType). AreProjectedBy reads r s e start bits out) same
    (λ bytes have. then_rows (row_value bytes r) (row_meaning bytes r t e) (root_meaning t e) (λ row v at. ap (option_and_then (root_meaning t e)) at) (rows_of start bits) values out (are bytes have) worked)

pub worked_count : (f : Datum → Option Datum) (values out : List Datum) → map f values ≡ map Some out → length out ≡ length values
worked_count f values out same = sym (length-map out Some) ∙ sym (ap length same) ∙ length-map values f

eval_place : (reads : List SegmentRead) (r : RowsBy) (t : DataType) (e : Term) (start : ℕ) (bits : List Bool) (values : List Datum) (row place : ℕ) → AreRowsBy reads r start bits values → IsRowAt start bits place row → (bytes : Bytes) → HaveBytes bytes reads → (o : Option Datum) → slice_get values place ≡ o → IsSomeAnd o (λ v. root_meaning t e v ≡ None) → ProjectionCause bytes r t e start bits (EvalFault row)
eval_place reads r t e start bits values row place are is_row bytes have None at some = absurd some
eval_place reads r t e start bits values row place are is_row bytes have (Some v) at some =
    let w = value_row (row_value bytes r) (rows_of start bits) values (are bytes have) place v at in
    let b = row_bit start bits place w.0 w.1 in
    let named : row ≡ w.0 = is_row w.0 w.1 in
    let here : IsFaultAt bytes r t e w.0 = subst (λ (o : Option Datum). IsSomeAnd o (λ v. root_meaning t e v ≡ None)) (sym w.2) some in
    (b.0, b.1, sym b.2 ∙ sym named, subst (IsFaultAt bytes r t e) (sym named) here)

pub projected_fault : (error : ApplyError) (reads : List SegmentRead) (r : RowsBy) (t s : DataType) (e : Term) (start : ℕ) (bits : List Bool) (values : List Datum) → t ≡ s → AreRowsBy reads r start bits values → IsEvalFault t e values start bits error → ProjectionFails reads r s e start bits (apply_fault error)
projected_fault (applied.EvalFault row) reads r t s e start bits values same are fault =
    subst (λ (s : DataType). ProjectionFails reads r s e start bits (EvalFault row)) same
    (λ bytes have. eval_place reads r t e start bits values row fault.0 are fault.2 bytes have (slice_get values fault.0) refl fault.1)
projected_fault applied.Memory reads r t s e start bits values same are fault = λ bytes have. tt

pub column_fault : (reads : List SegmentRead) (r : RowsBy) (t : DataType) (e : Term) (start : ℕ) (bits : List Bool) (fault : ReaderError) → Fails reads r start (length bits) fault → ProjectionFails reads r t e start bits fault
column_fault reads r t e start bits (EvalFault row) fails bytes have = absurd (fails bytes have)
column_fault reads r t e start bits ReadFault fails bytes have = fails bytes have
column_fault reads r t e start bits (BadSegment segment) fails bytes have = fails bytes have
column_fault reads r t e start bits (BadCode node row) fails bytes have = fails bytes have
column_fault reads r t e start bits (NoLocation segment) fails bytes have = fails bytes have
column_fault reads r t e start bits Memory fails bytes have = fails bytes have

-- ---- the root itself

root_term : (e : Term) → is_root e ≡ true → e ≡ root
root_term root is = refl
root_term e is = cc

-- it is worth the values themselves
pub root_values : (t : DataType) (e : Term) (values : List Datum) → is_root e ≡ true → map (root_meaning t e) values ≡ map Some values
root_values t e values is = subst (λ (e : Term). map (root_meaning t e) values ≡ map Some values) (sym (root_term e is)) refl

-- and of the dtype that it is bound to
pub root_dtype : (b : Bound) (t : DataType) → is_root b.term ≡ true → type_of b.root b.term ≡ Some b.dtype → IsBoundTo b t → t ≡ b.dtype
root_dtype b t is typed bound =
    let bare : b.term ≡ root = root_term b.term is in
    let here : Some b.root ≡ Some b.dtype = subst (λ (e : Term). type_of b.root e ≡ Some b.dtype) bare typed in
    let there : b.root ≡ t = bound (subst (λ (e : Term). IsTrue (uses_root e)) (sym bare) refl) in
    cc
