-- The totals of rows, one after another.
use Rattle.std.proofs.Common.{◌≡◌, ℕ, zero, suc, ◌+◌, ◌^◌, ◌<◌, ◌≤◌, List, [], ◌∷◌, ◌++◌, Some, length, drop, get_or, refl, sym, ap, ◌∙◌, arith, add-one}
use Rattle.std.specs.Prelude.{count_by}
use Rattle.std.specs.List.{flat_map, slice_get, sum_by}
use Rattle.std.proofs.lemmas.List.{drop_all}
use Rattle.std.proofs.lemmas.List.Sums.{sum_by-cons}
use Rattle.vx_base.specs.Columns.{ColumnData}
use Rattle.vx_base.specs.Data.{Datum}
use Rattle.vx_expr.specs.Refusals.{capped}
use Rattle.scan_demo.specs.declared.row_totals.Totals.{Totals}
use Rattle.scan_demo.specs.Totals.{one_where, id_in, is_flagged_in, lacks_name_in, no_totals, totals_of, with_row, with_rows}

-- the totals with the rows from a place on
abbrev pub with_rest : Totals → List Datum → ℕ → Totals
with_rest totals rows place = with_rows totals (drop place rows)

drop_here : (rows : List Datum) (place : ℕ) (row : Datum) → slice_get rows place ≡ Some row → drop place rows ≡ row ∷ drop (suc place) rows
drop_here [] place row at = absurd cc
drop_here (other ∷ rows) zero row at = let here : other ≡ row = cc in ap (λ (first : Datum). first ∷ rows) here
drop_here (other ∷ rows) (suc place) row at = drop_here rows place row at

pub row_more : (totals more whole : Totals) (rows : List Datum) (place : ℕ) (row : Datum) → slice_get rows place ≡ Some row → more ≡ with_row totals row
    → with_rest totals rows place ≡ whole → with_rest more rows (place + 1) ≡ whole
row_more totals more whole rows place row at e so_far =
    rw add-one (ap (λ (t : Totals). with_rows t (drop (suc place) rows)) e ∙ sym (ap (with_rows totals) (drop_here rows place row at)) ∙ so_far)

pub rows_done : (totals whole : Totals) (rows : List Datum) (place : ℕ) → length rows ≤ place → with_rest totals rows place ≡ whole → totals ≡ whole
rows_done totals whole rows place past so_far = sym (ap (with_rows totals) (drop_all place rows past)) ∙ so_far

with_both : (totals : Totals) (ones others : List Datum) → with_rows totals (ones ++ others) ≡ with_rows (with_rows totals ones) others
with_both totals [] others = refl
with_both totals (row ∷ ones) others = with_both (with_row totals row) ones others

-- the rows of the batches from a place on
abbrev pub rows_left : List ColumnData → ℕ → List Datum
rows_left batches place = flat_map (λ (batch : ColumnData). batch.values) (drop place batches)

left_here : (batches : List ColumnData) (place : ℕ) (batch : ColumnData) → place < length batches → batch ≡ get_or batches place batch
    → rows_left batches place ≡ batch.values ++ rows_left batches (suc place)
left_here [] place batch lt here = absurd (omega arith)
left_here (other ∷ batches) zero batch lt here = ap (λ (b : ColumnData). b.values ++ flat_map (λ (batch : ColumnData). batch.values) batches) (sym here)
left_here (other ∷ batches) (suc place) batch lt here = left_here batches place batch (omega arith) here

pub batch_more : (totals more whole : Totals) (batches : List ColumnData) (place : ℕ) (batch : ColumnData) → place < length batches → batch ≡ get_or batches place batch
    → more ≡ with_rows totals batch.values → with_rows totals (rows_left batches place) ≡ whole → with_rows more (rows_left batches (place + 1)) ≡ whole
batch_more totals more whole batches place batch lt here e so_far =
    rw add-one (ap (λ (t : Totals). with_rows t (rows_left batches (suc place))) e ∙ sym (with_both totals batch.values (rows_left batches (suc place)))
    ∙ sym (ap (with_rows totals) (left_here batches place batch lt here)) ∙ so_far)

-- ---- one row after another, and all at once

ids_summed : (totals : Totals) (rows : List Datum) → totals.id_sum < 2 ^ 64 → (with_rows totals rows).id_sum ≡ capped (totals.id_sum + sum_by id_in rows)
ids_summed totals [] small = let e : totals.id_sum ≡ capped (totals.id_sum + 0) = omega arith in e
ids_summed totals (row ∷ rows) small =
    let next : Totals = with_row totals row in
    let more : sum_by id_in (row ∷ rows) ≡ id_in row + sum_by id_in rows = sum_by-cons id_in row rows in
    ids_summed next rows (omega arith) ∙ (let e : capped (next.id_sum + sum_by id_in rows) ≡ capped (totals.id_sum + sum_by id_in (row ∷ rows)) = omega arith in e)

nulls_counted : (totals : Totals) (rows : List Datum) → totals.name_nulls < 2 ^ 64 → (with_rows totals rows).name_nulls ≡ capped (totals.name_nulls + count_by lacks_name_in rows)
nulls_counted totals [] small = let e : totals.name_nulls ≡ capped (totals.name_nulls + 0) = omega arith in e
nulls_counted totals (row ∷ rows) small =
    let next : Totals = with_row totals row in
    let more : count_by lacks_name_in (row ∷ rows) ≡ one_where (lacks_name_in row) + count_by lacks_name_in rows = sum_by-cons (λ (r : Datum). one_where (lacks_name_in r)) row rows in
    nulls_counted next rows (omega arith) ∙ (let e : capped (next.name_nulls + count_by lacks_name_in rows) ≡ capped (totals.name_nulls + count_by lacks_name_in (row ∷ rows)) = omega arith in e)

flags_counted : (totals : Totals) (rows : List Datum) → totals.flag_true < 2 ^ 64 → (with_rows totals rows).flag_true ≡ capped (totals.flag_true + count_by is_flagged_in rows)
flags_counted totals [] small = let e : totals.flag_true ≡ capped (totals.flag_true + 0) = omega arith in e
flags_counted totals (row ∷ rows) small =
    let next : Totals = with_row totals row in
    let more : count_by is_flagged_in (row ∷ rows) ≡ one_where (is_flagged_in row) + count_by is_flagged_in rows = sum_by-cons (λ (r : Datum). one_where (is_flagged_in r)) row rows in
    flags_counted next rows (omega arith) ∙ (let e : capped (next.flag_true + count_by is_flagged_in rows) ≡ capped (totals.flag_true + count_by is_flagged_in (row ∷ rows)) = omega arith in e)

abbrev made : ℕ → ℕ → ℕ → Totals
made ids nulls flags = record { id_sum = ids; name_nulls = nulls; flag_true = flags }

same_totals : (a b c p q r : ℕ) → a ≡ p → b ≡ q → c ≡ r → made a b c ≡ made p q r
same_totals a b c p q r ids nulls flags = rw (ids, nulls, flags) refl

from_none : (n : ℕ) → capped (0 + n) ≡ capped n
from_none n = omega arith

pub totals_are : (rows : List Datum) → with_rows no_totals rows ≡ totals_of rows
totals_are rows =
    same_totals (with_rows no_totals rows).id_sum (with_rows no_totals rows).name_nulls (with_rows no_totals rows).flag_true
    (capped (sum_by id_in rows)) (capped (count_by lacks_name_in rows)) (capped (count_by is_flagged_in rows))
    (ids_summed no_totals rows (omega arith) ∙ from_none (sum_by id_in rows))
    (nulls_counted no_totals rows (omega arith) ∙ from_none (count_by lacks_name_in rows))
    (flags_counted no_totals rows (omega arith) ∙ from_none (count_by is_flagged_in rows))
