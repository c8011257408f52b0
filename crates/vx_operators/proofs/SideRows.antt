-- One value at each row, and the rows of the sides of an operator.
use Rattle.std.specs.Prelude.{slice_get}
use Rattle.std.proofs.Common.{◌≡◌, ℕ, zero, suc, ◌<◌, ◌≤◌, ℤ, pos, Bool, true, false, List, [], ◌∷◌, length, map, take, replicate, Some, refl, sym, ap, ◌∙◌, arith}
use Rattle.std.proofs.lemmas.List.{length-map, length-replicate}
use Rattle.vx_types.specs.Data.{Datum, null, number, text}
use Rattle.vx_types.specs.Slots.{where_valid}
use Rattle.vx_operators.specs.declared.sides.Side.{Side}
use Rattle.vx_operators.specs.declared.sides.Side.TheVariants.{Rows, One, Null}
use Rattle.vx_operators.specs.Sides.{side_valid, side_numbers, side_rows, IsSide}
use Rattle.vx_operators.specs.declared.text_sides.TextSide.{TextSide}
use Rattle.vx_operators.specs.declared.text_sides.TextSide.TheVariants as texts
use Rattle.vx_operators.specs.TextSides.{text_valid, side_texts, text_rows, IsTextSide}

pub get_same : {X : Type 0} (rows : ℕ) (x : X) (row : ℕ) → row < length (replicate rows x) → slice_get (replicate rows x) row ≡ Some x
get_same zero x row lt = absurd (omega arith)
get_same (suc rows) x zero lt = refl
get_same (suc rows) x (suc row) lt = get_same rows x row (omega arith)

pub take_same : {X : Type 0} (n rows : ℕ) (x : X) → n ≤ rows → take n (replicate rows x) ≡ replicate n x
take_same zero rows x le = refl
take_same (suc n) zero x le = absurd (omega arith)
take_same {X} (suc n) (suc rows) x le = ap (λ (xs : List X). x ∷ xs) (take_same n rows x (omega arith))

-- ---- a number, or none, at each row
pub numbers_same : (rows : ℕ) (z : ℤ) → where_valid (replicate rows true) (map number (replicate rows z)) ≡ replicate rows (number z)
numbers_same zero z = refl
numbers_same (suc rows) z = ap (λ (vs : List Datum). number z ∷ vs) (numbers_same rows z)

pub nulls_same : (rows : ℕ) (z : ℤ) → where_valid (replicate rows false) (map number (replicate rows z)) ≡ replicate rows null
nulls_same zero z = refl
nulls_same (suc rows) z = ap (λ (vs : List Datum). null ∷ vs) (nulls_same rows z)

-- ---- a value of any sort, or none, at each row
pub values_same : {X : Type 0} (seen : X → Datum) (rows : ℕ) (x : X) → where_valid (replicate rows true) (map seen (replicate rows x)) ≡ replicate rows (seen x)
values_same seen zero x = refl
values_same seen (suc rows) x = ap (λ (vs : List Datum). seen x ∷ vs) (values_same seen rows x)

pub nulls_for : {X : Type 0} (seen : X → Datum) (rows : ℕ) (x : X) → where_valid (replicate rows false) (map seen (replicate rows x)) ≡ replicate rows null
nulls_for seen zero x = refl
nulls_for seen (suc rows) x = ap (λ (vs : List Datum). null ∷ vs) (nulls_for seen rows x)

-- ---- how many rows
pub valid_len : (mask : List Bool) (vs : List Datum) → length mask ≡ length vs → length (where_valid mask vs) ≡ length vs
valid_len [] [] e = refl
valid_len (bit ∷ mask) (v ∷ vs) e = omega (arith, valid_len mask vs (omega arith))
valid_len [] (v ∷ vs) e = absurd (omega arith)
valid_len (bit ∷ mask) [] e = absurd (omega arith)

valid_count : {X : Type 0} (seen : X → Datum) (mask : List Bool) (xs : List X) → length mask ≡ length xs → length (where_valid mask (map seen xs)) ≡ length xs
valid_count seen mask xs e = valid_len mask (map seen xs) (e ∙ sym (length-map xs seen)) ∙ length-map xs seen

pub text_count : (side : TextSide) → IsTextSide side → length (text_rows side) ≡ length (side_texts side)
text_count (texts.Rows valid held) e = valid_count text valid.now held.now e
text_count (texts.One t rows) e = valid_count text (replicate rows true) (replicate rows t.now) (length-replicate rows true ∙ sym (length-replicate rows t.now))
text_count (texts.Null rows) e =
    let none : List ℕ = [] in
    valid_count text (replicate rows false) (replicate rows none) (length-replicate rows false ∙ sym (length-replicate rows none))

pub side_count : {X : Type 0} (seen : X → ℤ) (side : Side X) → IsSide side → length (side_rows seen side) ≡ length (side_numbers seen side)
side_count seen (Rows valid numbers) e =
    valid_len valid.now (map number (map seen numbers.now)) (e ∙ sym (length-map numbers.now seen) ∙ sym (length-map (map seen numbers.now) number)) ∙ length-map (map seen numbers.now) number
side_count seen (One z rows) e =
    valid_len (replicate rows true) (map number (replicate rows (seen z))) (length-replicate rows true ∙ sym (length-replicate rows (seen z)) ∙ sym (length-map (replicate rows (seen z)) number)) ∙ length-map (replicate rows (seen z)) number
side_count seen (Null rows) e =
    valid_len (replicate rows false) (map number (replicate rows (pos 0))) (length-replicate rows false ∙ sym (length-replicate rows (pos 0)) ∙ sym (length-map (replicate rows (pos 0)) number)) ∙ length-map (replicate rows (pos 0)) number

-- as many rows are valid or not as there are
pub side_level : {X : Type 0} (seen : X → ℤ) (side : Side X) → IsSide side → length (side_valid side) ≡ length (side_numbers seen side)
side_level seen (Rows valid numbers) e = e ∙ sym (length-map numbers.now seen)
side_level seen (One z rows) e = length-replicate rows true ∙ sym (length-replicate rows (seen z))
side_level seen (Null rows) e = length-replicate rows false ∙ sym (length-replicate rows (pos 0))

pub text_level : (side : TextSide) → IsTextSide side → length (text_valid side) ≡ length (side_texts side)
text_level (texts.Rows valid held) e = e
text_level (texts.One t rows) e = length-replicate rows true ∙ sym (length-replicate rows t.now)
text_level (texts.Null rows) e =
    let none : List ℕ = [] in
    length-replicate rows false ∙ sym (length-replicate rows none)

pub sides_level : {X : Type 0} (seen : X → ℤ) (left right : Side X) → IsSide left → IsSide right → length (side_numbers seen right) ≡ length (side_numbers seen left) → length (side_valid right) ≡ length (side_valid left)
sides_level seen left right l r e = side_level seen right r ∙ e ∙ sym (side_level seen left l)

pub texts_level : (left right : TextSide) → IsTextSide left → IsTextSide right → length (side_texts right) ≡ length (side_texts left) → length (text_valid right) ≡ length (text_valid left)
texts_level left right l r e = text_level right r ∙ e ∙ sym (text_level left l)
