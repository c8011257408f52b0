-- Columns beside each other, as the arrays of structs of a dtype that takes them.
use Rattle.std.proofs.Common.{◌≡◌, ℕ, zero, suc, ◌≤◌, true, List, [], ◌∷◌, length, map, take, replicate, refl, sym, ap, subst, ◌∙◌, arith}
use Rattle.std.specs.List.{AllByRecursion}
use Rattle.std.proofs.lemmas.List.{length-map, length-take, length-replicate}
use Rattle.vx_base.specs.Columns.{ColumnData}
use Rattle.vx_base.specs.declared.dtypes.Nullability.TheVariants.{NonNullable}
use Rattle.vx_base.specs.Data.{DataType, bool_type, int_type, utf8_type, struct_type, list_type, Members, no_members, member, Datum, null, structure, Items, no_items, item}
use Rattle.vx_base.specs.Fits.{Fits, EachFits}
use Rattle.vx_base.specs.Slots.{where_valid}
use Rattle.vx_base.specs.ValueViews.{items_from}
use Rattle.vx_base.specs.Views.{fields_in}
use Rattle.vx_arrays.specs.ArrayRows.{members_in, beside, rows_of, picked_at, HaveRows}
use Rattle.vx_arrays.specs.Buffers.{bare, bare_members}
use Rattle.vx_masks.specs.Rows.{taken}
use Rattle.vx_expr.specs.Packs.{put_first, rows_along, struct_row, typed_columns, FitEach, IsStructOf}
use Rattle.vx_expr.specs.Rows.{along}
use Rattle.vx_expr.proofs.PackRows.{along_len, take_same}

-- ---- what fits
-- each row's values fit the members
abbrev RowsFit : Members → List (List Datum) → Type 0
RowsFit ms rows = AllByRecursion (λ row. EachFits ms (items_from row)) rows

rows_fit : (t : DataType) (ms : Members) (rows : List (List Datum)) → IsStructOf t ms → AllByRecursion (Fits t) (map struct_row rows) → RowsFit ms rows
rows_fit (struct_type ns n) ms [] e h = tt
rows_fit (struct_type ns n) ms (row ∷ rows) e h = (subst (λ (os : Members). EachFits os (items_from row)) e h.0, rows_fit (struct_type ns n) ms rows e h.1)
rows_fit (bool_type n) ms rows e h = absurd e
rows_fit (int_type kind n) ms rows e h = absurd e
rows_fit (utf8_type n) ms rows e h = absurd e
rows_fit (list_type t n) ms rows e h = absurd e

first_fits : (name : List ℕ) (t : DataType) (ms : Members) (k : ℕ) (column : List Datum) (rows : List (List Datum)) → k ≤ length (along put_first column rows) → RowsFit (member name t ms) (take k (along put_first column rows))
    → AllByRecursion (Fits t) (take k column) × RowsFit ms (take k rows)
first_fits name t ms zero column rows le h = (tt, tt)
first_fits name t ms (suc k) [] rows le h = absurd (omega arith)
first_fits name t ms (suc k) (v ∷ column) [] le h = absurd (omega arith)
first_fits name t ms (suc k) (v ∷ column) (row ∷ rows) le h =
    let more = first_fits name t ms k column rows (omega arith) h.1 in
    ((h.0.0, more.0), (h.0.1, more.1))

each_fits : (ms : Members) (k n : ℕ) (columns : List (List Datum)) → k ≤ length (rows_along n columns) → RowsFit ms (take k (rows_along n columns)) → FitEach k ms columns
each_fits no_members k n columns le h = tt
each_fits (member name t ms) k n [] le h = tt
each_fits (member name t ms) k n (column ∷ columns) le h =
    let rows = rows_along n columns in
    let both = first_fits name t ms k column rows le h in
    let count = along_len put_first column rows in
    ((omega (arith, count), both.0), each_fits ms k n columns (omega (arith, count)) both.1)

take_whole : {X : Type 0} (k : ℕ) (xs : List X) → k ≡ length xs → take k xs ≡ xs
take_whole zero [] e = refl
take_whole (suc k) [] e = absurd (omega arith)
take_whole zero (x ∷ xs) e = absurd (omega arith)
take_whole {X} (suc k) (x ∷ xs) e = ap (λ (ys : List X). x ∷ ys) (take_whole k xs (omega arith))

pub columns_fit : (t : DataType) (ms : Members) (k n : ℕ) (columns : List (List Datum)) → IsStructOf t ms → k ≡ length (rows_along n columns) → AllByRecursion (Fits t) (map struct_row (rows_along n columns)) → FitEach k ms columns
columns_fit t ms k n columns is e h =
    let rows = rows_along n columns in
    each_fits ms k n columns (omega (arith, e)) (subst (λ (rs : List (List Datum)). RowsFit ms rs) (sym (take_whole k rows e)) (rows_fit t ms rows is h))

-- ---- the first row, again and again
picked_first : (v : Datum) (rows : ℕ) → taken null (v ∷ []) (replicate rows 0) ≡ replicate rows v
picked_first v zero = refl
picked_first v (suc rows) = ap (λ (vs : List Datum). v ∷ vs) (picked_first v rows)

pub same_picked : (v : Datum) (rows : ℕ) (one part : ColumnData) (places : List ℕ) → one.values ≡ v ∷ [] → places ≡ replicate rows 0 → part ≡ picked_at places one → part.values ≡ replicate rows v
same_picked v rows one part places first is made = ap (λ (found : ColumnData). found.values) made ∙ (λ i. taken null (first i) (is i)) ∙ picked_first v rows

-- ---- arrays
pub members_same : (k : ℕ) (ms : Members) (columns : List (List Datum)) → length (fields_in ms) ≡ length columns → members_in (typed_columns k ms columns) ≡ bare_members ms
members_same k no_members columns e = refl
members_same k (member name t ms) [] e = absurd (omega arith)
members_same k (member name t ms) (column ∷ columns) e = ap (λ (os : Members). member [] (bare t) os) (members_same k ms columns (omega arith))

pub have_rows : (k : ℕ) (ms : Members) (columns : List (List Datum)) → FitEach k ms columns → HaveRows k (typed_columns k ms columns)
have_rows k no_members columns h = tt
have_rows k (member name t ms) [] h = tt
have_rows k (member name t ms) (column ∷ columns) h = (omega (arith, length-take k column, h.0.0), have_rows k ms columns h.1)

beside_along : (k : ℕ) (column : List Datum) (rows : List (List Datum)) → beside (take k column) (map items_from (take k rows)) ≡ map items_from (take k (along put_first column rows))
beside_along zero column rows = refl
beside_along (suc k) [] rows = refl
beside_along (suc k) (v ∷ column) [] = refl
beside_along (suc k) (v ∷ column) (row ∷ rows) = ap (λ (rest : List Items). item v (items_from row) ∷ rest) (beside_along k column rows)

no_rows : (k : ℕ) → replicate k no_items ≡ map items_from (replicate k [])
no_rows zero = refl
no_rows (suc k) = ap (λ (rest : List Items). no_items ∷ rest) (no_rows k)

first_rows : (k n : ℕ) (ms : Members) (columns : List (List Datum)) → length (fields_in ms) ≡ length columns → k ≤ length (rows_along n columns) → rows_of k (typed_columns k ms columns) ≡ map items_from (take k (rows_along n columns))
first_rows k n no_members [] e le =
    let none : List Datum = [] in
    no_rows k ∙ ap (map items_from) (take_same k n none (omega (arith, le, length-replicate n none)))
first_rows k n no_members (column ∷ columns) e le = absurd (omega arith)
first_rows k n (member name t ms) [] e le = absurd (omega arith)
first_rows k n (member name t ms) (column ∷ columns) e le =
    let rows = rows_along n columns in
    ap (beside (take k column)) (first_rows k n ms columns (omega arith) (omega (arith, le, along_len put_first column rows))) ∙ beside_along k column rows

pub rows_same : (k n : ℕ) (ms : Members) (columns : List (List Datum)) → length (fields_in ms) ≡ length columns → k ≡ length (rows_along n columns) → rows_of k (typed_columns k ms columns) ≡ map items_from (rows_along n columns)
rows_same k n ms columns e count = first_rows k n ms columns e (omega (arith, count)) ∙ ap (map items_from) (take_whole k (rows_along n columns) count)

-- ---- the array of the structs
all_valid : (k : ℕ) (rows : List (List Datum)) → k ≡ length rows → where_valid (replicate k true) (map structure (map items_from rows)) ≡ map struct_row rows
all_valid zero [] e = refl
all_valid (suc k) [] e = absurd (omega arith)
all_valid zero (row ∷ rows) e = absurd (omega arith)
all_valid (suc k) (row ∷ rows) e = ap (λ (rest : List Datum). struct_row row ∷ rest) (all_valid k rows (omega arith))

pub structs_same : (k n : ℕ) (ms : Members) (columns : List (List Datum)) (rows : List Items) → length (fields_in ms) ≡ length columns → k ≡ length (rows_along n columns) → rows ≡ rows_of k (typed_columns k ms columns)
    → where_valid (replicate k true) (map structure rows) ≡ map struct_row (rows_along n columns)
structs_same k n ms columns rows e count is =
    ap (λ (rs : List Items). where_valid (replicate k true) (map structure rs)) (is ∙ rows_same k n ms columns e count) ∙ all_valid k (rows_along n columns) count

pub structs_len : (k n : ℕ) (ms : Members) (columns : List (List Datum)) (rows : List Items) → length (fields_in ms) ≡ length columns → k ≡ length (rows_along n columns) → rows ≡ rows_of k (typed_columns k ms columns) → length rows ≡ k
structs_len k n ms columns rows e count is = ap length (is ∙ rows_same k n ms columns e count) ∙ length-map (rows_along n columns) items_from ∙ sym count

pub struct_bare : (t : DataType) (ms os : Members) → IsStructOf t ms → os ≡ bare_members ms → struct_type os NonNullable ≡ bare t
struct_bare (struct_type ns n) ms os e is = ap (λ (ls : Members). struct_type ls NonNullable) (is ∙ ap bare_members (sym e))
struct_bare (bool_type n) ms os e is = absurd e
struct_bare (int_type kind n) ms os e is = absurd e
struct_bare (utf8_type n) ms os e is = absurd e
struct_bare (list_type t n) ms os e is = absurd e
