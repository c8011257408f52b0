-- A column that is cut at splits: its parts have what it has.
use Rattle.std.proofs.Common.{◌≡◌, ℕ, zero, suc, ◌+◌, ◌-◌, ◌<◌, ◌≤◌, List, [], ◌∷◌, ◌++◌, Option, Some, None, length, map, take, drop, get_or, refl, sym, ap, ◌∙◌, subst, arith}
use Rattle.std.specs.Prelude.{slice_range}
use Rattle.std.specs.List.{range_with_len}
use Rattle.std.proofs.lemmas.List.{drop-drop, length-drop, length-take}
use Rattle.vx_base.specs.Columns.{ColumnData}
use Rattle.vx_base.specs.Data.{Datum}
use Rattle.vx_base.specs.Sources.{SourceState}
use Rattle.vx_expr.specs.Bound.{Bound}
use Rattle.vx_picking.specs.Rows.{AreOf}
use Rattle.vx_readers.specs.ReaderData.{ReaderData}
use Rattle.vx_readers.specs.WholeReads.{told_row, AreSplitColumns, AreWithin, IsPartOf, IsSplitColumn}
use Rattle.vx_readers.proofs.WholeReading.{gathers_first, gathers_more, Gathers}

-- ---- what f gives at rows one behind another, and at some of them

no_values : (f : ℕ → Option Datum) (first count : ℕ) → AreOf f (range_with_len first (suc count)) [] → ⊥
no_values f first count are = let none : suc (length (map f (range_with_len (first + 1) count))) ≡ 0 = ap length are in omega arith

dropped : (f : ℕ → Option Datum) (count k first next left : ℕ) (values : List Datum) → first + k ≡ next → left + k ≡ count → AreOf f (range_with_len first count) values → AreOf f (range_with_len next left) (drop k values)
dropped f count zero first next left values here behind are =
    let from : first ≡ next = omega (arith, here) in
    let many : count ≡ left = omega (arith, behind) in
    subst (λ (n : ℕ). AreOf f (range_with_len n left) values) from (subst (λ (n : ℕ). AreOf f (range_with_len first n) values) many are)
dropped f zero (suc k) first next left values here behind are = absurd (omega (arith, behind))
dropped f (suc count) (suc k) first next left [] here behind are = absurd (no_values f first count are)
dropped f (suc count) (suc k) first next left (v ∷ values) here behind are = dropped f count k (first + 1) next left values (omega (arith, here)) (omega (arith, behind)) (ap (drop 1) are)

taken : (f : ℕ → Option Datum) (first count k : ℕ) (values : List Datum) → k ≤ count → AreOf f (range_with_len first count) values → AreOf f (range_with_len first k) (take k values)
taken f first count zero values inside are = refl
taken f first zero (suc k) values inside are = absurd (omega arith)
taken f first (suc count) (suc k) [] inside are = absurd (no_values f first count are)
taken f first (suc count) (suc k) (v ∷ values) inside are =
    let here : f first ≡ Some v = ap (λ (os : List (Option Datum)). get_or os 0 None) are in
    let rest : AreOf f (range_with_len (first + 1) count) values = ap (drop 1) are in
    let later : map f (range_with_len (first + 1) k) ≡ map Some (take k values) = taken f (first + 1) count k values (omega arith) rest in
    ap (λ (o : Option Datum). o ∷ map f (range_with_len (first + 1) k)) here ∙ ap (λ (os : List (Option Datum)). Some v ∷ os) later

between : (f : ℕ → Option Datum) (rows start end : ℕ) (values : List Datum) → start ≤ end → end ≤ rows → AreOf f (range_with_len 0 rows) values → AreOf f (range_with_len start (end - start)) (slice_range values start end)
between f rows start end values forwards inside are =
    taken f start (rows - start) (end - start) (drop start values) (omega arith) (dropped f rows start 0 start (rows - start) values (omega arith) (omega arith) are)

-- ---- parts of a column

part_length : (values : List Datum) (start end : ℕ) → start ≤ end → end ≤ length values → length (slice_range values start end) ≡ end - start
part_length values start end forwards inside = omega (arith, length-take (end - start) (drop start values), length-drop start values)

part_column : (r : ReaderData) (e : Bound) (before : SourceState) (rows start end : ℕ) (whole part : ColumnData) → IsSplitColumn r e before 0 rows whole → IsPartOf whole start end part → IsSplitColumn r e before start end part
part_column r e before rows start end whole part all is = (
  is.2 ∙ all.0,
  ap length is.3 ∙ part_length whole.values start end is.0 is.1,
  λ file told.
      (let counted : length whole.values ≡ rows = all.1 ∙ omega arith in
      let inside : end ≤ length whole.values = is.1 in
      let none : rows - 0 ≡ rows = omega arith in
      let here : AreOf (told_row r e file) (range_with_len 0 rows) whole.values = subst (λ (n : ℕ). AreOf (told_row r e file) (range_with_len 0 n) whole.values) none (all.2 file told) in
      subst (AreOf (told_row r e file) (range_with_len start (end - start))) (sym is.3) (between (told_row r e file) rows start end whole.values is.0 (omega arith) here)),
)

pub parts_columns : (r : ReaderData) (e : Bound) (before : SourceState) (rows : ℕ) (whole : ColumnData) (splits : List ℕ) (columns : List ColumnData) → IsSplitColumn r e before 0 rows whole → AreSplitColumns (IsPartOf whole) splits columns → AreSplitColumns (IsSplitColumn r e before) splits columns
parts_columns r e before rows whole [] [] all are = tt
parts_columns r e before rows whole [] (column ∷ columns) all are = absurd are
parts_columns r e before rows whole (last ∷ []) [] all are = tt
parts_columns r e before rows whole (last ∷ []) (column ∷ columns) all are = absurd are
parts_columns r e before rows whole (start ∷ end ∷ splits) [] all are = absurd are
parts_columns r e before rows whole (start ∷ end ∷ splits) (column ∷ columns) all are = (part_column r e before rows start end whole column all are.0, parts_columns r e before rows whole (end ∷ splits) columns all are.1)

-- ---- cut off the rows that are left

-- The columns are those of the splits up to a place, and the rows behind it are left.
pub record CutsTo (whole rest : ColumnData) (splits : List ℕ) (place : ℕ) (columns : List ColumnData) : Type 0 where
  pub gathered : Gathers (IsPartOf whole) splits place columns
  pub same : rest.dtype ≡ whole.dtype
  pub left : rest.values ≡ drop (get_or splits (place - 1) 0) whole.values

pub cuts_first : (whole rest : ColumnData) (splits : List ℕ) (columns : List ColumnData) → rest ≡ whole → columns ≡ [] → get_or splits 0 0 ≡ 0 → CutsTo whole rest splits 1 columns
cuts_first whole rest splits columns is none first = record {
  gathered = subst (Gathers (IsPartOf whole) splits 1) (sym none) (gathers_first (IsPartOf whole) splits);
  same = ap (λ (column : ColumnData). column.dtype) is;
  left = ap (λ (column : ColumnData). column.values) is ∙ sym (ap (λ (n : ℕ). drop n whole.values) first);
}

pub cuts_room : (whole rest : ColumnData) (splits : List ℕ) (place : ℕ) (columns : List ColumnData) → AreWithin (length whole.values) splits → 1 ≤ place → place < length splits → CutsTo whole rest splits place columns → get_or splits place 0 - get_or splits (place - 1) 0 ≤ length rest.values
cuts_room whole rest splits place columns within some inside cuts =
    let w = within place some inside in
    omega (arith, ap length cuts.left, length-drop (get_or splits (place - 1) 0) whole.values, w.0, w.1)

rows_left : (whole now next : ColumnData) (start end : ℕ) → start ≤ end → now.values ≡ drop start whole.values → next.values ≡ drop (end - start) now.values → next.values ≡ drop end whole.values
rows_left whole now next start end forwards left cut =
    let behind : start + (end - start) ≡ end = omega arith in
    cut ∙ ap (drop (end - start)) left ∙ drop-drop (end - start) start whole.values ∙ ap (λ (n : ℕ). drop n whole.values) behind

pub cuts_next : (whole rest next part : ColumnData) (splits : List ℕ) (place : ℕ) (columns more : List ColumnData) → AreWithin (length whole.values) splits → 1 ≤ place → place < length splits → more ≡ columns ++ part ∷ [] → part.dtype ≡ rest.dtype → next.dtype ≡ rest.dtype →
    part.values ≡ take (get_or splits place 0 - get_or splits (place - 1) 0) rest.values → next.values ≡ drop (get_or splits place 0 - get_or splits (place - 1) 0) rest.values → CutsTo whole rest splits place columns → CutsTo whole next splits (place + 1) more
cuts_next whole rest next part splits place columns more within some inside pushed typed same values behind cuts =
    let w = within place some inside in
    let s : ℕ = get_or splits (place - 1) 0 in
    let t : ℕ = get_or splits place 0 in
    let is : IsPartOf whole s t part = (w.0, w.1, typed ∙ cuts.same, values ∙ ap (take (t - s)) cuts.left) in
    let here : place ≡ place + 1 - 1 = omega arith in
    record {
      gathered = gathers_more (IsPartOf whole) splits place columns more part some inside is pushed cuts.gathered;
      same = same ∙ cuts.same;
      left = rows_left whole rest next s t w.0 cuts.left behind ∙ ap (λ (n : ℕ). drop (get_or splits n 0) whole.values) here;
    }
