-- What a filter keeps, worked out at the selected rows or at all of them.
use Rattle.std.proofs.Common.{◌≡◌, pos, negsuc, ℕ, zero, suc, ◌+◌, ◌≤◌, Bool, true, false, List, [], ◌∷◌, Option, Some, None, map, length, replicate, refl, sym, ap, ◌∙◌, subst}
use Rattle.std.specs.Prelude.{slice_range, option_and_then, IfSome}
use Rattle.std.specs.List.{slice_get}
use Rattle.std.proofs.lemmas.List.{length-map}
use Rattle.vx_base.specs.Columns.{ColumnData}
use Rattle.vx_base.specs.declared.dtypes.Nullability.{Nullability}
use Rattle.vx_base.specs.declared.dtypes.Nullability.TheVariants.{NonNullable, Nullable}
use Rattle.vx_base.specs.ColumnCalls.{nullable_where, IsBool}
use Rattle.vx_base.specs.Data.{DataType, bool_type, int_type, utf8_type, struct_type, list_type, Datum, null, truth, number, text, structure}
use Rattle.vx_expr.specs.Laws.{StrictIsNull}
use Rattle.vx_expr.specs.Meaning.{is_strict}
use Rattle.vx_expr.specs.Rows.{no_bound}
use Rattle.vx_rows.specs.Derivations.{look_up}
use Rattle.vx_base.specs.Masks.{both, chosen, chosen_of_chosen, true_count}
use Rattle.vx_base.specs.Slots.{truth_in}
use Rattle.vx_expr.specs.Terms.{Term}
use Rattle.vx_picking.specs.RowFaults.{root_meaning}
use Rattle.vx_picking.specs.Rows.{rows_of, AreOf}
use Rattle.vx_reads.specs.Truths.{column_meaning, filtered, is_true, looked_meaning, AreTruths}
use Rattle.vx_picking.proofs.SelectedRows.{picked_rows, rows_count, count_of_rows, then_rows}

pub sparse_kept : (f : ℕ → Option Datum) (start : ℕ) (mask : List Bool) (values : List Datum) → AreOf f (rows_of start mask) values → chosen_of_chosen mask (map truth_in values) ≡ filtered f start mask
sparse_kept f start [] values are = refl
sparse_kept f start (true ∷ mask) [] are = absurd cc
sparse_kept f start (true ∷ mask) (v ∷ values) are =
    let here : f start ≡ Some v = cc in
    let more : AreOf f (rows_of (start + 1) mask) values = cc in
    let rest = sparse_kept f (start + 1) mask values more in
    let bit : truth_in v ≡ is_true (f start) = sym (ap is_true here) in
    cc
sparse_kept f start (false ∷ mask) values are = ap (λ (bits : List Bool). false ∷ bits) (sparse_kept f (start + 1) mask values are)

pub dense_kept : (f : ℕ → Option Datum) (start : ℕ) (mask : List Bool) (values : List Datum) → AreOf f (rows_of start (replicate (length mask) true)) values → both mask (map truth_in values) ≡ filtered f start mask
dense_kept f start [] values are = refl
dense_kept f start (bit ∷ mask) [] are = absurd cc
dense_kept f start (bit ∷ mask) (v ∷ values) are =
    let here : f start ≡ Some v = cc in
    let more : AreOf f (rows_of (start + 1) (replicate (length mask) true)) values = cc in
    let rest = dense_kept f (start + 1) mask values more in
    let truth : truth_in v ≡ is_true (f start) = sym (ap is_true here) in
    cc

pub sparse_truths : (f : ℕ → Option Datum) (start : ℕ) (mask truths : List Bool) → AreTruths f (rows_of start mask) truths → chosen_of_chosen mask truths ≡ filtered f start mask
sparse_truths f start mask truths are = ap (chosen_of_chosen mask) are.2 ∙ sparse_kept f start mask are.0 are.1

pub dense_truths : (f : ℕ → Option Datum) (start : ℕ) (mask every truths : List Bool) → every ≡ replicate (length mask) true → AreTruths f (rows_of start every) truths → both mask truths ≡ filtered f start mask
dense_truths f start mask every truths all are = ap (both mask) are.2 ∙ dense_kept f start mask are.0 (subst (λ (every : List Bool). AreOf f (rows_of start every) are.0) all are.1)

-- what is worked out over the picked rows
pub truths_are : (column root : ColumnData) (e : Term) (start : ℕ) (bits truths : List Bool) (values : List Datum) → root.dtype ≡ column.dtype → root.values ≡ chosen bits (slice_range column.values start (start + length bits)) → start + length bits ≤ length column.values → map (root_meaning root.dtype e) root.values ≡ map Some values → truths ≡ map truth_in values → AreTruths (column_meaning column e) (rows_of start bits) truths
truths_are column root e start bits truths values typed picked inside worked are =
    let F : DataType → Type 0 = λ t. map (root_meaning t e) root.values ≡ map Some values in
    let at : AreOf (slice_get column.values) (rows_of start bits) root.values = picked_rows column.values start bits inside ∙ ap (map Some) (sym picked) in
    (values, then_rows (slice_get column.values) (column_meaning column e) (root_meaning column.dtype e) (λ row v there. ap (option_and_then (root_meaning column.dtype e)) there) (rows_of start bits) root.values values at (subst F typed worked), are)

pub truths_count : (f : ℕ → Option Datum) (start : ℕ) (bits truths : List Bool) → AreTruths f (rows_of start bits) truths → length truths ≡ true_count bits
truths_count f start bits truths are = ap length are.2 ∙ length-map are.0 truth_in ∙ count_of_rows f (rows_of start bits) are.0 are.1 ∙ rows_count start bits

-- ---- a strict expression over the values of a dictionary

pub meaning_at : (f : Datum → Option Datum) (vs ws : List Datum) (place : ℕ) (w : Datum) → map f vs ≡ map Some ws → slice_get ws place ≡ Some w → option_and_then f (slice_get vs place) ≡ Some w
meaning_at f [] [] place w are at = absurd cc
meaning_at f [] (x ∷ ws) place w are at = absurd cc
meaning_at f (v ∷ vs) [] place w are at = absurd cc
meaning_at f (v ∷ vs) (x ∷ ws) zero w are at =
    let first : f v ≡ Some x = cc in
    first ∙ at
meaning_at f (v ∷ vs) (x ∷ ws) (suc place) w are at =
    let rest : map f vs ≡ map Some ws = cc in
    meaning_at f vs ws place w rest at

never_true : (o : Option Datum) → IfSome o (λ w. w ≡ null) → false ≡ is_true o
never_true None is = refl
never_true (Some w) is = sym (ap truth_in is)

-- the truth that is looked up is that over the value that is looked up
pushed_row : (f : Datum → Option Datum) (vs ws : List Datum) (code out : Datum) → IfSome (f null) (λ w. w ≡ null) → map f vs ≡ map Some ws → look_up ws code ≡ Some out → truth_in out ≡ is_true (option_and_then f (look_up vs code))
pushed_row f vs ws null out strict are found = (let same : null ≡ out = cc in ap truth_in (sym same)) ∙ never_true (f null) strict
pushed_row f vs ws (number (pos place)) out strict are found = sym (ap is_true (meaning_at f vs ws place out are found))
pushed_row f vs ws (number (negsuc n)) out strict are found = absurd cc
pushed_row f vs ws (truth b) out strict are found = absurd cc
pushed_row f vs ws (text bytes) out strict are found = absurd cc
pushed_row f vs ws (structure items) out strict are found = absurd cc

pushed_rows : (f : Datum → Option Datum) (vs ws : List Datum) → IfSome (f null) (λ w. w ≡ null) → map f vs ≡ map Some ws → (code_at : ℕ → Option Datum) (start : ℕ) (mask : List Bool) (codes outs : List Datum) → AreOf code_at (rows_of start mask) codes → map (look_up ws) codes ≡ map Some outs → chosen_of_chosen mask (map truth_in outs) ≡ filtered (λ row. option_and_then f (option_and_then (look_up vs) (code_at row))) start mask
pushed_rows f vs ws strict are code_at start [] codes outs coded found = refl
pushed_rows f vs ws strict are code_at start (true ∷ mask) [] outs coded found = absurd cc
pushed_rows f vs ws strict are code_at start (true ∷ mask) (code ∷ codes) [] coded found = absurd cc
pushed_rows f vs ws strict are code_at start (true ∷ mask) (code ∷ codes) (out ∷ outs) coded found =
    let here : code_at start ≡ Some code = cc in
    let more : AreOf code_at (rows_of (start + 1) mask) codes = cc in
    let first : look_up ws code ≡ Some out = cc in
    let others : map (look_up ws) codes ≡ map Some outs = cc in
    let rest = pushed_rows f vs ws strict are code_at (start + 1) mask codes outs more others in
    let bit : truth_in out ≡ is_true (option_and_then f (option_and_then (look_up vs) (code_at start))) = pushed_row f vs ws code out strict are first ∙ sym (ap (λ (o : Option Datum). is_true (option_and_then f (option_and_then (look_up vs) o))) here) in
    λ i. bit i ∷ rest i
pushed_rows f vs ws strict are code_at start (false ∷ mask) codes outs coded found = ap (λ (bits : List Bool). false ∷ bits) (pushed_rows f vs ws strict are code_at (start + 1) mask codes outs coded found)

pub pushed_kept : StrictIsNull → (values : ColumnData) (e : Term) (ws : List Datum) → is_strict e ≡ true → map (root_meaning values.dtype e) values.values ≡ map Some ws → (code_at : ℕ → Option Datum) (start : ℕ) (mask truths : List Bool) (codes outs : List Datum) → AreOf code_at (rows_of start mask) codes → map (look_up ws) codes ≡ map Some outs → truths ≡ map truth_in outs → chosen_of_chosen mask truths ≡ filtered (looked_meaning values e code_at) start mask
pushed_kept law values e ws strict are code_at start mask truths codes outs coded found same =
    ap (chosen_of_chosen mask) same ∙ pushed_rows (root_meaning values.dtype e) values.values ws (law values.dtype e no_bound 0 strict) are code_at start mask codes outs coded found

pub bool_looked : (n : Nullability) (t s : DataType) → s ≡ nullable_where n t → IsBool t → IsBool s
bool_looked n t s same bool = subst IsBool (sym same) (by n t bool)
  where
    by : (n : Nullability) (t : DataType) → IsBool t → IsBool (nullable_where n t)
    by NonNullable t bool = bool
    by Nullable (bool_type m) bool = tt
    by Nullable (int_type kind m) bool = absurd bool
    by Nullable (utf8_type m) bool = absurd bool
    by Nullable (struct_type ms m) bool = absurd bool
    by Nullable (list_type u m) bool = absurd bool

pub looked_count : (f : Datum → Option Datum) (codes outs : List Datum) → map f codes ≡ map Some outs → length outs ≡ length codes
looked_count f codes outs found = sym (length-map outs Some) ∙ ap length (sym found) ∙ length-map codes f
