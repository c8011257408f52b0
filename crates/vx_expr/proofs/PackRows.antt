-- Columns beside each other, row by row.
use Rattle.std.specs.Prelude.{min}
use Rattle.std.proofs.Common.{◌≡◌, ℕ, zero, suc, ◌<◌, ◌≤◌, ◌+◌, List, [], ◌∷◌, ◌++◌, length, map, take, drop, get_or, replicate, refl, sym, ap, ◌∙◌, arith, append_assoc}
use Rattle.std.proofs.lemmas.List.{append-nil, drop_more, length-take, map-append}
use Rattle.vx_base.specs.Data.{Datum}
use Rattle.vx_operators.specs.declared.columnar_values.ColumnarValue.{ColumnarValue}
use Rattle.vx_operators.specs.ColumnarValues.{columnar_rows}
use Rattle.vx_expr.specs.Packs.{put_first, rows_along}
use Rattle.vx_expr.specs.Rows.{along}
use Rattle.vx_expr.specs.Steps.{appended}

-- ---- a column more
push_none : (n : ℕ) (column : List Datum) → along put_first column (replicate n []) ≡ along appended (replicate n []) column
push_none zero [] = refl
push_none zero (v ∷ column) = refl
push_none (suc n) [] = refl
push_none (suc n) (v ∷ column) = ap (λ (rows : List (List Datum)). (v ∷ []) ∷ rows) (push_none n column)

push_step : (one : List Datum) (rows : List (List Datum)) (column : List Datum) → along put_first one (along appended rows column) ≡ along appended (along put_first one rows) column
push_step [] rows column = refl
push_step (v ∷ one) [] column = refl
push_step (v ∷ one) (row ∷ rows) [] = refl
push_step (v ∷ one) (row ∷ rows) (w ∷ column) = ap (λ (rest : List (List Datum)). (v ∷ (row ++ w ∷ [])) ∷ rest) (push_step one rows column)

pub rows_push : (n : ℕ) (columns : List (List Datum)) (column : List Datum) → rows_along n (columns ++ column ∷ []) ≡ along appended (rows_along n columns) column
rows_push n [] column = push_none n column
rows_push n (one ∷ columns) column = ap (along put_first one) (rows_push n columns column) ∙ push_step one (rows_along n columns) column

pub columnar_push : (n : ℕ) (columnar_values more : List ColumnarValue) (columnar : ColumnarValue) → more ≡ columnar_values ++ columnar ∷ [] → rows_along n (map columnar_rows more) ≡ along appended (rows_along n (map columnar_rows columnar_values)) (columnar_rows columnar)
columnar_push n columnar_values more columnar e = ap (λ (ws : List ColumnarValue). rows_along n (map columnar_rows ws)) e ∙ ap (rows_along n) (map-append columnar_rows columnar_values (columnar ∷ [])) ∙ rows_push n (map columnar_rows columnar_values) (columnar_rows columnar)

-- ---- column after column
-- the rows with the values of these columns behind their own
abbrev pub extended : List (List Datum) → List (List Datum) → List (List Datum)
extended rows [] = rows
extended rows (column ∷ columns) = extended (along appended rows column) columns

extended_more : (n : ℕ) (ones others : List (List Datum)) → extended (rows_along n ones) others ≡ rows_along n (ones ++ others)
extended_more n ones [] = ap (rows_along n) (sym (append-nil ones))
extended_more n ones (column ∷ others) =
    ap (λ (rows : List (List Datum)). extended rows others) (sym (rows_push n ones column))
    ∙ extended_more n (ones ++ column ∷ []) others
    ∙ ap (rows_along n) (append_assoc ones (column ∷ []) others)

pub extended_all : (n : ℕ) (columns rows : List (List Datum)) → rows ≡ replicate n [] → extended rows columns ≡ rows_along n columns
extended_all n columns rows e = ap (λ (rs : List (List Datum)). extended rs columns) e ∙ extended_more n [] columns

pub extended_end : (rows columns whole : List (List Datum)) → length columns ≤ 0 → extended rows columns ≡ whole → rows ≡ whole
extended_end rows [] whole e h = h
extended_end rows (column ∷ columns) whole e h = absurd (omega arith)

-- ---- how many rows
pub along_len : {A B C : Type 0} (f : A → B → C) (xs : List A) (ys : List B) → length (along f xs ys) ≡ min (length xs) (length ys)
along_len f [] ys = omega arith
along_len f (x ∷ xs) [] = omega arith
along_len f (x ∷ xs) (y ∷ ys) = omega (arith, along_len f xs ys)

pub take_same : {X : Type 0} (m n : ℕ) (x : X) → m ≤ n → replicate m x ≡ take m (replicate n x)
take_same zero n x le = refl
take_same (suc m) zero x le = absurd (omega arith)
take_same {X} (suc m) (suc n) x le = ap (λ (xs : List X). x ∷ xs) (take_same m n x (omega arith))

take_along : (m : ℕ) (column : List Datum) (rows : List (List Datum)) → along put_first column (take m rows) ≡ take m (along put_first column rows)
take_along zero [] rows = refl
take_along zero (v ∷ column) rows = refl
take_along (suc m) [] rows = refl
take_along (suc m) (v ∷ column) [] = refl
take_along (suc m) (v ∷ column) (row ∷ rows) = ap (λ (rest : List (List Datum)). (v ∷ row) ∷ rest) (take_along m column rows)

rows_cut : (m n : ℕ) (columns : List (List Datum)) → m ≤ n → rows_along m columns ≡ take m (rows_along n columns)
rows_cut m n [] le = take_same m n [] le
rows_cut m n (column ∷ columns) le = ap (along put_first column) (rows_cut m n columns le) ∙ take_along m column (rows_along n columns)

replicate_len : {X : Type 0} (n : ℕ) (x : X) → length (replicate n x) ≡ n
replicate_len zero x = refl
replicate_len (suc n) x = ap suc (replicate_len n x)

rows_most : (n : ℕ) (columns : List (List Datum)) → length (rows_along n columns) ≤ n
rows_most n [] =
    let none : List Datum = [] in
    omega (arith, replicate_len n none)
rows_most n (column ∷ columns) = omega (arith, along_len put_first column (rows_along n columns), rows_most n columns)

-- a column with fewer rows, and one with enough
pub rows_fewer : (m n : ℕ) (column : List Datum) (columns : List (List Datum)) → m ≡ length column → m ≤ n → length (rows_along m columns) ≡ length (rows_along n (column ∷ columns))
rows_fewer m n column columns e le = omega (arith, ap length (rows_cut m n columns le), length-take m (rows_along n columns), along_len put_first column (rows_along n columns), e)

pub rows_enough : (n : ℕ) (column : List Datum) (columns : List (List Datum)) → n ≤ length column → length (rows_along n columns) ≡ length (rows_along n (column ∷ columns))
rows_enough n column columns le = omega (arith, along_len put_first column (rows_along n columns), rows_most n columns)

-- one columnar value after another: one with fewer rows, and one with enough
columnar_from : (n : ℕ) (columnar_values : List ColumnarValue) (i : ℕ) (columnar : ColumnarValue) → i < length columnar_values → columnar ≡ get_or columnar_values i columnar → length (rows_along n (map columnar_rows (drop i columnar_values))) ≡ length (rows_along n (columnar_rows columnar ∷ map columnar_rows (drop (i + 1) columnar_values)))
columnar_from n columnar_values i columnar lt e =
    let split : drop i columnar_values ≡ columnar ∷ drop (i + 1) columnar_values = drop_more columnar_values i columnar lt ∙ ap (λ (one : ColumnarValue). one ∷ drop (i + 1) columnar_values) (sym e) in
    ap (λ (ws : List ColumnarValue). length (rows_along n (map columnar_rows ws))) split

pub next_fewer : (n found whole : ℕ) (columnar_values : List ColumnarValue) (i : ℕ) (columnar : ColumnarValue) → i < length columnar_values → columnar ≡ get_or columnar_values i columnar → found ≡ length (columnar_rows columnar) → found ≤ n → length (rows_along n (map columnar_rows (drop i columnar_values))) ≡ whole
    → length (rows_along found (map columnar_rows (drop (i + 1) columnar_values))) ≡ whole
next_fewer n found whole columnar_values i columnar lt e is le so_far = rows_fewer found n (columnar_rows columnar) (map columnar_rows (drop (i + 1) columnar_values)) is le ∙ sym (columnar_from n columnar_values i columnar lt e) ∙ so_far

pub next_enough : (n found whole : ℕ) (columnar_values : List ColumnarValue) (i : ℕ) (columnar : ColumnarValue) → i < length columnar_values → columnar ≡ get_or columnar_values i columnar → found ≡ length (columnar_rows columnar) → n ≤ found → length (rows_along n (map columnar_rows (drop i columnar_values))) ≡ whole
    → length (rows_along n (map columnar_rows (drop (i + 1) columnar_values))) ≡ whole
next_enough n found whole columnar_values i columnar lt e is le so_far = rows_enough n (columnar_rows columnar) (map columnar_rows (drop (i + 1) columnar_values)) (omega (arith, is)) ∙ sym (columnar_from n columnar_values i columnar lt e) ∙ so_far

-- as many rows as values are put behind them
pub pushed_len : (rows longer : List (List Datum)) (column : List Datum) → longer ≡ along appended rows column → length column ≤ length rows → length longer ≡ length column
pushed_len rows longer column e le = omega (arith, ap length e, along_len appended rows column)
