-- The runs of rows that are looked up by their places.
use Rattle.std.proofs.Common.{◌≡◌, ℕ, ◌+◌, ◌<◌, ◌≤◌, List, [], ◌∷◌, ◌++◌, length, get_or, take, Option, sym, ap, ap₂, ◌∙◌, arith}
use Rattle.std.specs.Prelude.{slice_get, unwrap_or}
use Rattle.std.proofs.lemmas.List.{get_or_past, map-append, take_more, take_all}
use Rattle.std.proofs.lemmas.Option.{unwrap_or-slice_get}
use Rattle.vx_arrays.specs.ArrayRows.{picked_at}
use Rattle.vx_masks.specs.Rows.{taken}
use Rattle.vx_types.specs.Columns.{ColumnData}
use Rattle.vx_types.specs.Data.{Datum, null}
use Rattle.vx_columns.specs.RunRows.{AreRunsAt, HasRow, Rise, runs_column, start_of}
use Rattle.vx_columns.specs.Runs.{spread}
use Rattle.vx_columns.proofs.SpreadRuns.{row_of, spread_len}

abbrev row_at : List Datum → ℕ → Datum
row_at rows place = get_or rows place null

abbrev one_row : Datum → List Datum
one_row v = v ∷ []

-- ---- one row
pub run_there : (ends : List ℕ) (row place : ℕ) → Rise 0 ends → HasRow ends row place → AreRunsAt ends (row ∷ []) (place ∷ [])
run_there ends row place rise has vs same =
    let rows = spread 0 vs ends in
    let values : slice_get vs place ≡ slice_get rows row = sym (row_of vs ends row place same rise has) in
    ap one_row (sym (unwrap_or-slice_get vs place null) ∙ ap (λ (v : Option Datum). unwrap_or v null) values ∙ unwrap_or-slice_get rows row null)

pub run_past : (ends : List ℕ) (row place : ℕ) → Rise 0 ends → start_of 0 ends (length ends) ≤ row → place ≡ length ends → AreRunsAt ends (row ∷ []) (place ∷ [])
run_past ends row place rise past is vs same =
    let rows = spread 0 vs ends in
    let none : row_at vs place ≡ null = get_or_past vs place null (omega (arith, is, same)) in
    let no_row : row_at rows row ≡ null = get_or_past rows row null (omega (arith, spread_len 0 vs ends same rise, past)) in
    ap one_row (none ∙ sym no_row)

-- ---- the runs so far
pub runs_at_none : (ends places : List ℕ) → places ≡ [] → AreRunsAt ends [] places
runs_at_none ends places e vs same = ap (taken null vs) e

pub runs_at_more : (ends rows places more : List ℕ) (i row place : ℕ) → i < length rows → row ≡ get_or rows i 0 → more ≡ places ++ place ∷ [] → AreRunsAt ends (row ∷ []) (place ∷ []) → AreRunsAt ends (take i rows) places → AreRunsAt ends (take (i + 1) rows) more
runs_at_more ends rows places more i row place lt is pushed here h vs same =
    let all = spread 0 vs ends in
    ap (taken null vs) pushed ∙ map-append (row_at vs) places (place ∷ [])
    ∙ ap₂ (λ (xs ys : List Datum). xs ++ ys) (h vs same) (here vs same ∙ ap (λ (k : ℕ). one_row (row_at all k)) is)
    ∙ sym (map-append (row_at all) (take i rows) (get_or rows i 0 ∷ []))
    ∙ sym (ap (taken null all) (take_more rows i 0 lt))

pub runs_at_all : (ends rows places : List ℕ) (i : ℕ) → length rows ≤ i → AreRunsAt ends (take i rows) places → AreRunsAt ends rows places
runs_at_all ends rows places i past h vs same = h vs same ∙ ap (taken null (spread 0 vs ends)) (take_all i rows past)

-- ---- the values of the rows
pub taken_runs : (values column made : ColumnData) (ends slice rows places at : List ℕ) → runs_column values ends ≡ column → length ends ≡ length values.values → slice ≡ ends → AreRunsAt slice rows places → at ≡ places → made ≡ picked_at at values → made ≡ picked_at rows column
taken_runs values column made ends slice rows places at view same e found f is =
    let values_are : taken null values.values at ≡ taken null (spread 0 values.values slice) rows = ap (taken null values.values) f ∙ found values.values (ap length e ∙ same) in
    is ∙ (λ i. record { dtype = values.dtype; values = values_are i }) ∙ ap (λ (es : List ℕ). picked_at rows (runs_column values es)) e ∙ ap (picked_at rows) view
