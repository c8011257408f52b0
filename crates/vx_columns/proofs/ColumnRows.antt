-- Columns, row by row.
use Rattle.std.proofs.Common.{◌≡◌, ℕ, zero, suc, ◌+◌, pos, ℤ, true, List, [], ◌∷◌, ◌++◌, length, map, get_or, take, replicate, Some, refl, sym, ap, ◌∙◌, arith}
use Rattle.std.specs.Prelude.{slice_get, ◌↔◌}
use Rattle.std.specs.List.{AllByRecursion}
use Rattle.std.proofs.lemmas.Option.{slice_get_within}
use Rattle.std.proofs.lemmas.List.{map-append, take_more}
use Rattle.vx_types.specs.declared.dtypes.Nullability.TheVariants.{NonNullable}
use Rattle.vx_types.specs.declared.values.Value.{Value}
use Rattle.vx_types.specs.ColumnCalls.{natural}
use Rattle.vx_types.specs.Data.{Datum, null, number}
use Rattle.vx_types.specs.Slots.{where_valid}
use Rattle.vx_types.specs.ValueViews.{datum}
use Rattle.vx_masks.specs.Rows.{NullsHold}
use Rattle.vx_arrays.specs.Buffers.{Takes}

-- ---- one value more

pub value_at : (xs : List Datum) (row : ℕ) (v : Datum) → slice_get xs row ≡ Some v → get_or xs row null ≡ v
value_at [] row v e = absurd cc
value_at (x ∷ xs) zero v e = cc
value_at (x ∷ xs) (suc row) v e = value_at xs row v e

pub values_more : (xs : List Datum) (values more : List Value) (row : ℕ) (value : Value) → slice_get xs row ≡ Some (datum value) → more ≡ values ++ value ∷ [] → map datum values ≡ take row xs → map datum more ≡ take (row + 1) xs
values_more xs values more row value at pushed so_far =
    ap (map datum) pushed ∙ map-append datum values (value ∷ []) ∙ (λ i. so_far i ++ sym (value_at xs row (datum value) at) i ∷ []) ∙ sym (take_more xs row null (slice_get_within xs row (datum value) at))

-- ---- numbers that are all valid
pub all_held : (n : ℕ) (zs : List ℤ) → NullsHold (pos 0) (replicate n true) zs
all_held zero zs = tt
all_held (suc n) [] = tt
all_held (suc n) (z ∷ zs) = all_held n zs

pub all_there : (n : ℕ) (zs : List ℤ) → length zs ≡ n → where_valid (replicate n true) (map number zs) ≡ map number zs
all_there zero [] e = refl
all_there (suc n) (z ∷ zs) e = ap (λ (vs : List Datum). number z ∷ vs) (all_there n zs (omega arith))
all_there zero (z ∷ zs) e = absurd (omega arith)
all_there (suc n) [] e = absurd (omega arith)

pub all_taken : (n : ℕ) → AllByRecursion (Takes NonNullable) (replicate n true)
all_taken zero = tt
all_taken (suc n) = (tt, all_taken n)

pub naturals : (ns : List ℕ) → map number (map pos ns) ≡ map natural ns
naturals [] = refl
naturals (n ∷ ns) = ap (λ (vs : List Datum). natural n ∷ vs) (naturals ns)

-- ---- a row of two columns, each where its value stands
pub row_agrees : (xs ys ones others : List Datum) (row place second : ℕ) (P : Type 0) → slice_get xs row ≡ slice_get ones place → slice_get ys row ≡ slice_get others second → (P ↔ (slice_get ones place ≡ slice_get others second)) → (P ↔ (slice_get xs row ≡ slice_get ys row))
row_agrees xs ys ones others row place second P e f h = (λ p. e ∙ h.0 p ∙ sym f, λ same. h.1 (sym e ∙ same ∙ f))

pub rows_agree : (xs ones others : List Datum) (row second place other : ℕ) (P : Type 0) → slice_get xs row ≡ slice_get ones place → slice_get xs second ≡ slice_get others other → (P ↔ (slice_get ones place ≡ slice_get others other)) → (P ↔ (slice_get xs row ≡ slice_get xs second))
rows_agree xs ones others row second place other P e f h = (λ p. e ∙ h.0 p ∙ sym f, λ same. h.1 (sym e ∙ same ∙ f))
