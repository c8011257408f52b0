-- Steps with structs that stand as a columnar value for each field: the items at a place are the rows of the columnar value
-- that stands there, as far as there are structs, and no struct is null.
use Rattle.std.proofs.Common.{◌≡◌, ℕ, zero, suc, ◌<◌, ◌≤◌, true, false, List, [], ◌∷◌, length, map, take, get_or, replicate, slice_get, Option, Some, None, refl, sym, ap, ◌∙◌, arith}
use Rattle.std.proofs.lemmas.List.{length-map, length-take}
use Rattle.std.proofs.lemmas.Option.{slice_get-map, slice_get-get_or}
use Rattle.vx_base.specs.Data.{Datum, truth}
use Rattle.vx_base.specs.ValueViews.{data_in, items_from}
use Rattle.vx_operators.specs.declared.columnar_values.ColumnarValue.{ColumnarValue}
use Rattle.vx_operators.specs.ColumnarValues.{columnar_rows}
use Rattle.vx_operators.proofs.Somes.{front_somes}
use Rattle.vx_expr.specs.Meaning.{null_test_of, value_test_of}
use Rattle.vx_expr.specs.Packs.{put_first, rows_along, struct_row}
use Rattle.vx_expr.specs.Rows.{along, front}
use Rattle.vx_expr.specs.Steps.{item_at}

abbrev some_value : Datum → Option Datum
some_value v = Some v

abbrev some_rows : ColumnarValue → Option (List Datum)
some_rows columnar = Some (columnar_rows columnar)

-- the value at a place of each row
abbrev values_at : ℕ → List (List Datum) → List (Option Datum)
values_at place rows = map (λ row. slice_get row place) rows

-- ---- a column among others
first_column : (column : List Datum) (rows : List (List Datum)) → values_at 0 (along put_first column rows) ≡ map some_value (take (length (along put_first column rows)) column)
first_column [] rows = refl
first_column (v ∷ column) [] = refl
first_column (v ∷ column) (row ∷ rows) = ap (λ (rest : List (Option Datum)). some_value v ∷ rest) (first_column column rows)

later_column : (place : ℕ) (column : List Datum) (rows : List (List Datum)) (wanted : List Datum) → values_at place rows ≡ map some_value (take (length rows) wanted)
    → values_at (suc place) (along put_first column rows) ≡ map some_value (take (length (along put_first column rows)) wanted)
later_column place [] rows wanted h = refl
later_column place (v ∷ column) [] wanted h = refl
later_column place (v ∷ column) (row ∷ rows) [] h = absurd cc
later_column place (v ∷ column) (row ∷ rows) (w ∷ wanted) h =
    let here : slice_get row place ≡ some_value w = cc in
    let rest : values_at place rows ≡ map some_value (take (length rows) wanted) = cc in
    let more = later_column place column rows wanted rest in
    λ i. here i ∷ more i

column_at : (n : ℕ) (columns : List (List Datum)) (place : ℕ) (wanted : List Datum) → slice_get columns place ≡ Some wanted → values_at place (rows_along n columns) ≡ map some_value (take (length (rows_along n columns)) wanted)
column_at n [] place wanted e = absurd cc
column_at n (column ∷ columns) zero wanted e =
    let same : column ≡ wanted = cc in
    first_column column (rows_along n columns) ∙ ap (λ (values : List Datum). map some_value (take (length (along put_first column (rows_along n columns))) values)) same
column_at n (column ∷ columns) (suc place) wanted e = later_column place column (rows_along n columns) wanted (column_at n columns place wanted e)

columnar_at : (columnar_values : List ColumnarValue) (place : ℕ) (item : ColumnarValue) → place < length columnar_values → item ≡ get_or columnar_values place item → slice_get (map columnar_rows columnar_values) place ≡ some_rows item
columnar_at columnar_values place item lt is = rw (slice_get-map columnar_rows columnar_values place, slice_get-get_or columnar_values place item lt) (ap some_rows (sym is))

-- ---- the items of the structs
data_back : (row : List Datum) → data_in (items_from row) ≡ row
data_back [] = refl
data_back (v ∷ row) = ap (λ (rest : List Datum). v ∷ rest) (data_back row)

items_of_rows : (place : ℕ) (rows : List (List Datum)) → map (item_at (Some place)) (map struct_row rows) ≡ values_at place rows
items_of_rows place [] = refl
items_of_rows place (row ∷ rows) =
    let more = items_of_rows place rows in
    λ i. slice_get (data_back row i) place ∷ more i

pub item_enough : (n : ℕ) (columnar_values : List ColumnarValue) (place count : ℕ) (item : ColumnarValue) → place < length columnar_values → item ≡ get_or columnar_values place item → count ≡ length (rows_along n (map columnar_rows columnar_values)) → count ≤ length (columnar_rows item)
item_enough n columnar_values place count item lt is counted =
    let columns = map columnar_rows columnar_values in
    let rows = rows_along n columns in
    let found = column_at n columns place (columnar_rows item) (columnar_at columnar_values place item lt is) in
    omega (arith, counted, ap length found, length-map rows (λ (row : List Datum). slice_get row place), length-map (take (length rows) (columnar_rows item)) some_value, length-take (length rows) (columnar_rows item))

pub item_front : (n : ℕ) (columnar_values : List ColumnarValue) (place count : ℕ) (item first : ColumnarValue) → place < length columnar_values → item ≡ get_or columnar_values place item → count ≡ length (rows_along n (map columnar_rows columnar_values))
    → columnar_rows first ≡ take count (columnar_rows item) → columnar_rows first ≡ front (map (item_at (Some place)) (map struct_row (rows_along n (map columnar_rows columnar_values))))
item_front n columnar_values place count item first lt is counted cut =
    let columns = map columnar_rows columnar_values in
    let rows = rows_along n columns in
    let found = column_at n columns place (columnar_rows item) (columnar_at columnar_values place item lt is) in
    cut
    ∙ ap (λ (k : ℕ). take k (columnar_rows item)) counted
    ∙ sym (front_somes (take (length rows) (columnar_rows item)))
    ∙ ap front (sym (items_of_rows place rows ∙ found))

-- ---- no struct is null
pub no_nulls : (rows : List (List Datum)) → replicate (length rows) (truth false) ≡ front (map null_test_of (map struct_row rows))
no_nulls [] = refl
no_nulls (row ∷ rows) = ap (λ (rest : List Datum). truth false ∷ rest) (no_nulls rows)

pub all_values : (rows : List (List Datum)) → replicate (length rows) (truth true) ≡ front (map value_test_of (map struct_row rows))
all_values [] = refl
all_values (row ∷ rows) = ap (λ (rest : List Datum). truth true ∷ rest) (all_values rows)
