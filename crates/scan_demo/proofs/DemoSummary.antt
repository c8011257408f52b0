-- The text of batches that hold the rows of the demo file is its summary.
use Rattle.std.proofs.Common.{◌≡◌, ℕ, ◌+◌, ◌*◌, ◌%◌, ◌/◌, ◌==◌, ◌^◌, ◌<◌, ◌≤◌, Bool, true, false, List, [], ◌∷◌, ◌++◌, length, map, refl, sym, ap, ap₂, ◌∙◌, arith}
use Rattle.std.specs.Prelude.{count_by, if◌then◌else◌, not}
use Rattle.std.specs.List.{flat_map, range_with_len, sum_by}
use Rattle.std.proofs.lemmas.Bool.{lt-ltb}
use Rattle.std.proofs.lemmas.List.{length-map, map-append}
use Rattle.std.proofs.lemmas.List.Folds.{flat_map-map}
use Rattle.std.proofs.lemmas.List.FromFn.{length-range_with_len}
use Rattle.std.proofs.lemmas.List.Sums.{count_by-le-length, sum_by-cons}
use Rattle.vx_base.specs.ColumnCalls.{natural}
use Rattle.vx_base.specs.Columns.{ColumnData}
use Rattle.vx_base.specs.Data.{Datum, null}
use Rattle.vx_base.specs.Slots.{is_value}
use Rattle.vx_scan.specs.Answer.{in_front, pieces_of}
use Rattle.scan_demo.specs.DemoRows.{demo_row, id_of, is_flagged, lacks_name, name_at}
use Rattle.scan_demo.specs.Summary.{batches_text, demo_pieces, summary, summary_text}
use Rattle.vx_expr.specs.Refusals.{capped}
use Rattle.scan_demo.specs.Totals.{one_where, id_in, is_flagged_in, lacks_name_in, natural_in}

-- ---- the pieces join to the rows

abbrev joined : List (List ℕ) → List ℕ
joined pieces = flat_map (λ (piece : List ℕ). piece) pieces

front_either : (shared : Bool) (row other : ℕ) (others : List ℕ) (pieces : List (List ℕ))
    → joined (if shared then (row ∷ other ∷ others) ∷ pieces else (row ∷ []) ∷ (other ∷ others) ∷ pieces) ≡ row ∷ joined ((other ∷ others) ∷ pieces)
front_either true row other others pieces = refl
front_either false row other others pieces = refl

front_joined : (size row : ℕ) (pieces : List (List ℕ)) → joined (in_front size row pieces) ≡ row ∷ joined pieces
front_joined size row [] = refl
front_joined size row ([] ∷ pieces) = refl
front_joined size row ((other ∷ others) ∷ pieces) = front_either (row / size == other / size) row other others pieces

pieces_joined : (size : ℕ) (rows : List ℕ) → joined (pieces_of size rows) ≡ rows
pieces_joined size [] = refl
pieces_joined size (row ∷ rows) = front_joined size row (pieces_of size rows) ∙ ap (λ (more : List ℕ). row ∷ more) (pieces_joined size rows)

mapped : (f : ℕ → Datum) (pieces : List (List ℕ)) → flat_map (map f) pieces ≡ map f (joined pieces)
mapped f [] = refl
mapped f (piece ∷ pieces) = ap (λ (more : List Datum). map f piece ++ more) (mapped f pieces) ∙ sym (map-append f piece (joined pieces))

abbrev values_in : ColumnData → List Datum
values_in batch = batch.values

values_joined : (f : ℕ → Datum) (batches : List ColumnData) (pieces : List (List ℕ)) → map values_in batches ≡ map (map f) pieces → flat_map values_in batches ≡ map f (joined pieces)
values_joined f batches pieces same =
    sym (flat_map-map (λ (values : List Datum). values) values_in batches)
    ∙ ap (flat_map (λ (values : List Datum). values)) same
    ∙ flat_map-map (λ (values : List Datum). values) (map f) pieces
    ∙ mapped f pieces

-- ---- what is counted

natural_small : (n : ℕ) → n < 1000 → natural_in (natural n) ≡ n
natural_small n lt = rw (lt-ltb n (2 ^ 64) (omega arith)) refl

uncapped : (n : ℕ) → n < 2 ^ 64 → capped n ≡ n
uncapped n lt = omega arith

lacking : (lacks : Bool) (code : ℕ) → not (is_value (if lacks then null else name_at code)) ≡ lacks
lacking true code = refl
lacking false code = refl

count_first : {X : Type 0} (p : X → Bool) (row : X) (rows : List X) → count_by p (row ∷ rows) ≡ one_where (p row) + count_by p rows
count_first {X} p row rows = sum_by-cons (λ (x : X). one_where (p x)) row rows

ids_summed : (number : ℕ) (rows : List ℕ) → sum_by id_in (map (demo_row number) rows) ≡ sum_by (id_of number) rows
ids_summed number [] = refl
ids_summed number (row ∷ rows) =
    let id : ℕ = id_of number row in
    let here : id_in (demo_row number row) ≡ id = natural_small id (omega arith) in
    sum_by-cons id_in (demo_row number row) (map (demo_row number) rows) ∙ ap₂ (λ (a b : ℕ). a + b) here (ids_summed number rows) ∙ sym (sum_by-cons (id_of number) row rows)

nulls_counted : (number : ℕ) (rows : List ℕ) → count_by lacks_name_in (map (demo_row number) rows) ≡ count_by lacks_name rows
nulls_counted number [] = refl
nulls_counted number (row ∷ rows) =
    let here : one_where (lacks_name_in (demo_row number row)) ≡ one_where (lacks_name row) = ap one_where (lacking (lacks_name row) (row % 16)) in
    count_first lacks_name_in (demo_row number row) (map (demo_row number) rows) ∙ ap₂ (λ (a b : ℕ). a + b) here (nulls_counted number rows) ∙ sym (count_first lacks_name row rows)

flags_counted : (number : ℕ) (rows : List ℕ) → count_by is_flagged_in (map (demo_row number) rows) ≡ count_by is_flagged rows
flags_counted number [] = refl
flags_counted number (row ∷ rows) =
    count_first is_flagged_in (demo_row number row) (map (demo_row number) rows) ∙ ap (λ (n : ℕ). one_where (is_flagged row) + n) (flags_counted number rows) ∙ sym (count_first is_flagged row rows)

sum_small : (number : ℕ) (rows : List ℕ) → sum_by (id_of number) rows ≤ 1000 * length rows
sum_small number [] = omega arith
sum_small number (row ∷ rows) =
    let more : sum_by (id_of number) (row ∷ rows) ≡ id_of number row + sum_by (id_of number) rows = sum_by-cons (id_of number) row rows in
    omega (arith, sum_small number rows)

-- ---- the summary

same_text : (rows a b c d p q r s : ℕ) → a ≡ p → b ≡ q → c ≡ r → d ≡ s → summary_text rows a b c d ≡ summary_text rows p q r s
same_text rows a b c d p q r s e f g h = rw (e, f, g, h) refl

pub summary_is : (number : ℕ) (batches : List ColumnData) → number ≤ 1000000 → map values_in batches ≡ map (map (demo_row number)) (demo_pieces number) → batches_text number batches ≡ summary number
summary_is number batches few same =
    let rows : List ℕ = range_with_len 0 number in
    let all : List Datum = flat_map values_in batches in
    let values : all ≡ map (demo_row number) rows = values_joined (demo_row number) batches (demo_pieces number) same ∙ ap (map (demo_row number)) (pieces_joined _ rows) in
    let size : length rows ≡ number = length-range_with_len 0 number in
    let ids = sum_small number rows in
    let nulls = count_by-le-length lacks_name rows in
    let flags = count_by-le-length is_flagged rows in
    let count : length batches ≡ length (demo_pieces number) = sym (length-map batches values_in) ∙ ap length same ∙ length-map (demo_pieces number) (map (demo_row number)) in
    same_text number (length batches) (capped (sum_by id_in all)) (capped (count_by lacks_name_in all)) (capped (count_by is_flagged_in all))
    (length (demo_pieces number)) (sum_by (id_of number) rows) (count_by lacks_name rows) (count_by is_flagged rows)
    count
    (ap (λ (vs : List Datum). capped (sum_by id_in vs)) values ∙ ap capped (ids_summed number rows) ∙ uncapped (sum_by (id_of number) rows) (omega arith))
    (ap (λ (vs : List Datum). capped (count_by lacks_name_in vs)) values ∙ ap capped (nulls_counted number rows) ∙ uncapped (count_by lacks_name rows) (omega arith))
    (ap (λ (vs : List Datum). capped (count_by is_flagged_in vs)) values ∙ ap capped (flags_counted number rows) ∙ uncapped (count_by is_flagged rows) (omega arith))
