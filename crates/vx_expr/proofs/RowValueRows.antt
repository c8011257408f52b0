-- Row values, row by row, and structs without nulls.
use Rattle.std.proofs.Common.{◌≡◌, ℕ, zero, suc, ◌+◌, Bool, true, false, List, [], ◌∷◌, ◌++◌, length, map, take, slice_get, Option, Some, None, Bor, Result, Ok, Err, refl, sym, ap, subst, ◌∙◌, arith}
use Rattle.std.specs.Prelude.{IfOk, IfSome}
use Rattle.std.specs.List.{All}
use Rattle.std.proofs.lemmas.List.{length-map, map-append, take_more}
use Rattle.vx_base.specs.Columns.{ColumnData}
use Rattle.vx_base.specs.declared.dtypes.IntKind.{IntKind}
use Rattle.vx_base.specs.declared.dtypes.Nullability.{Nullability}
use Rattle.vx_base.specs.declared.dtypes.Nullability.TheVariants.{NonNullable}
use Rattle.vx_base.specs.Data.{int_type, Datum, null, structure, Items}
use Rattle.vx_base.specs.Slots.{where_valid}
use Rattle.vx_base.specs.ValueViews.{data_in}
use Rattle.vx_expr.specs.declared.row_values.RowValue.{RowValue}
use Rattle.vx_expr.specs.declared.evaluated.Evaluated.{Evaluated}
use Rattle.vx_expr.specs.declared.evaluated.Evaluated.TheVariants as evaluated
use Rattle.vx_expr.specs.declared.steps.TwoStep.{TwoStep}
use Rattle.vx_expr.specs.declared.steps.TwoStep.TheVariants.{Arith}
use Rattle.vx_expr.specs.Meaning.{arithmetic_of}
use Rattle.vx_expr.specs.Rows.{along, front}
use Rattle.vx_expr.specs.Steps.{row_value_datum, evaluated_rows, item_at, two_step}
use Rattle.vx_base.proofs.ColumnRows.{value_at}
use Rattle.vx_operators.proofs.Somes.{front_somes}
use Rattle.vx_expr.proofs.Fronts.{along_none}
use Rattle.vx_operators.specs.declared.operators.ArithOp.{ArithOp}
use Rattle.vx_operators.specs.declared.columnar_values.ColumnarValue.{ColumnarValue}
use Rattle.vx_operators.specs.ColumnarValues.{columnar_rows}
use Rattle.std.proofs.lemmas.Option.{slice_get_within}

-- one row value more
pub row_values_more : (xs : List Datum) (row_values more : List RowValue) (row : ℕ) (cell : RowValue) (v : Datum) → slice_get xs row ≡ Some v → row_value_datum cell ≡ v → more ≡ row_values ++ cell ∷ [] → map row_value_datum row_values ≡ take row xs → map row_value_datum more ≡ take (row + 1) xs
row_values_more xs row_values more row cell v at is pushed so_far =
    ap (map row_value_datum) pushed ∙ map-append row_value_datum row_values (cell ∷ []) ∙ (λ i. so_far i ++ (is ∙ sym (value_at xs row v at)) i ∷ []) ∙ sym (take_more xs row null (slice_get_within xs row v at))

-- ---- items at a place
all_valid : (mask : List Bool) (vs : List Datum) → All (λ bit. bit ≡ true) mask → length mask ≡ length vs → where_valid mask vs ≡ vs
all_valid [] [] h e = refl
all_valid [] (v ∷ vs) h e = absurd (omega arith)
all_valid (bit ∷ mask) [] h e = absurd (omega arith)
all_valid (true ∷ mask) (v ∷ vs) h e = ap (λ (rest : List Datum). v ∷ rest) (all_valid mask vs (λ k d lt. h (suc k) d (omega (arith, lt))) (omega arith))
all_valid (false ∷ mask) (v ∷ vs) h e = let none : false ≡ true = h zero true (omega arith) in absurd cc

items_at : (place : ℕ) (rows : List Items) → map (item_at (Some place)) (map structure rows) ≡ map (λ vs. slice_get (data_in vs) place) rows
items_at place [] = refl
items_at place (vs ∷ rows) = ap (λ (rest : List (Option Datum)). slice_get (data_in vs) place ∷ rest) (items_at place rows)

pub field_found : (place : ℕ) (mask : List Bool) (rows : List Items) (values : List Datum) (r : Option (Bor ColumnData)) → where_valid mask (map structure rows) ≡ values → length mask ≡ length rows → All (λ bit. bit ≡ true) mask
    → IfSome r (λ part. map (λ vs. slice_get (data_in vs) place) rows ≡ map Some part.now.values) → IfSome r (λ part. part.now.values ≡ front (map (item_at (Some place)) values))
field_found place mask rows values None view len valid found = tt
field_found place mask rows values (Some part) view len valid found =
    let whole : map structure rows ≡ values = sym (all_valid mask (map structure rows) valid (len ∙ sym (length-map rows structure))) ∙ view in
    sym (front_somes part.now.values) ∙ ap front (sym found ∙ sym (items_at place rows) ∙ ap (map (item_at (Some place))) whole)

-- ---- two columnar values
pub joined_whole : {E : Type 0} (r : Result (Option ColumnData) E) (op : ArithOp) (kind : IntKind) (step : TwoStep) (ls rs : List Datum) → step ≡ Arith op (Some kind)
    → IfOk r (λ made. IfSome made (λ part. (n : Nullability) → part.values ≡ front (along (arithmetic_of op (Some (int_type kind n))) ls rs)))
    → IfOk r (λ made. IfSome made (λ part. part.values ≡ front (along (two_step step) ls rs)))
joined_whole (Ok None) op kind step ls rs is h = tt
joined_whole (Ok (Some part)) op kind step ls rs is h = h NonNullable ∙ ap (λ (s : TwoStep). front (along (two_step s) ls rs)) (sym is)
joined_whole (Err error) op kind step ls rs is h = tt

along_first : {A B C : Type 0} (f : A → B → C) (n : ℕ) (xs : List A) (ys : List B) → n ≡ length ys → along f (take n xs) ys ≡ along f xs ys
along_first f n xs [] e = along_none f (take n xs) ∙ sym (along_none f xs)
along_first f zero xs (y ∷ ys) e = absurd (omega arith)
along_first f (suc n) [] (y ∷ ys) e = refl
along_first {C = C} f (suc n) (x ∷ xs) (y ∷ ys) e = ap (λ (rest : List C). f x y ∷ rest) (along_first f n xs ys (omega arith))

pub firsts_paired : {E : Type 0} (r : Result Evaluated E) (step : TwoStep) (one two : Evaluated) (left first right : ColumnarValue) (n : ℕ) → one ≡ evaluated.Packed left → two ≡ evaluated.Packed right → n ≡ length (columnar_rows right) → columnar_rows first ≡ take n (columnar_rows left)
    → IfOk r (λ made. evaluated_rows made ≡ front (along (two_step step) (columnar_rows first) (columnar_rows right))) → IfOk r (λ made. evaluated_rows made ≡ front (along (two_step step) (evaluated_rows one) (evaluated_rows two)))
firsts_paired r step one two left first right n e f count rows h =
    let same : front (along (two_step step) (columnar_rows first) (columnar_rows right)) ≡ front (along (two_step step) (evaluated_rows one) (evaluated_rows two)) =
    ap (λ (ws : List Datum). front (along (two_step step) ws (columnar_rows right))) rows
    ∙ ap front (along_first (two_step step) n (columnar_rows left) (columnar_rows right) count)
    ∙ (λ i. front (along (two_step step) (evaluated_rows (sym e i)) (evaluated_rows (sym f i)))) in
    subst (λ (zs : List Datum). IfOk r (λ made. evaluated_rows made ≡ zs)) same h
