-- All rows of a plan, one after another.
use Rattle.std.proofs.Common.{◌≡◌, ℕ, zero, suc, ◌+◌, ◌<◌, ◌≤◌, Bool, true, List, [], ◌∷◌, Option, Some, None, length, map, refl, sym, ap, ◌∙◌, arith}
use Rattle.std.proofs.lemmas.Option.{slice_get_within}
use Rattle.std.specs.List.{slice_get, range_with_len}
use Rattle.vx_base.specs.Data.{Datum}
use Rattle.vx_expr.specs.Types.{on_both}
use Rattle.vx_rows.specs.Derivations.{Derivation, Leaves, one_more, each_row, derived, derived_each}
use Rattle.vx_rows.proofs.Givens.{none_given as none_given_is}
use Rattle.vx_picking.specs.Rows.{rows_of}
use Rattle.vx_picking.proofs.SelectedRows.{rows_same}
use Rattle.vx_plan.specs.Plans.{Plan}
use Rattle.vx_plan.specs.PlanRows.{plan_derivation}
use Rattle.vx_steps.specs.Given.{row_value}

-- ---- masks

pub row_below : (bs : List Bool) (rows : ℕ) → length bs ≡ rows → (place : ℕ) → slice_get bs place ≡ Some true → 0 + place < rows
row_below bs rows long place at = omega (arith, slice_get_within bs place true at)

pub same_below : (f g : ℕ → Option Datum) (rows start : ℕ) (bits : List Bool) → start + length bits ≤ rows → ((row : ℕ) → row < rows → f row ≡ g row) → map f (rows_of start bits) ≡ map g (rows_of start bits)
same_below f g rows start bits inside same = rows_same f g start start bits (λ k h. same (start + k) (omega arith))

-- ---- values

pub each_at : (leaves : Leaves) (f : ℕ → Derivation) (from count : ℕ) (vs : List Datum) → derived_each leaves (each_row f from count) ≡ Some vs → (k : ℕ) → k < count → slice_get vs k ≡ derived leaves (f (from + k))
each_at leaves f from zero vs e k h = absurd (omega arith)
each_at leaves f from (suc count) vs e k h = by (derived leaves (f from)) (derived_each leaves (each_row f (from + 1) count)) refl (λ us q j less. each_at leaves f (from + 1) count us q j less) vs e k h
  where
    by : (first : Option Datum) (rest : Option (List Datum)) → derived leaves (f from) ≡ first → ((us : List Datum) → rest ≡ Some us → (j : ℕ) → j < count → slice_get us j ≡ derived leaves (f (from + 1 + j))) → (ws : List Datum) → on_both one_more first rest ≡ Some ws → (j : ℕ) → j < suc count → slice_get ws j ≡ derived leaves (f (from + j))
    by None rest p q ws e j h = absurd cc
    by (Some v) None p q ws e j h = absurd cc
    by (Some v) (Some us) p q ws e zero h =
        let same : v ∷ us ≡ ws = cc in
        let zero_more : from ≡ from + 0 = omega arith in
        ap (λ (xs : List Datum). slice_get xs 0) (sym same) ∙ sym p ∙ ap (λ (k : ℕ). derived leaves (f k)) zero_more
    by (Some v) (Some us) p q ws e (suc j) h =
        let same : v ∷ us ≡ ws = cc in
        let more : from + 1 + j ≡ from + suc j = omega arith in
        ap (λ (xs : List Datum). slice_get xs (suc j)) (sym same) ∙ q us refl j (omega arith) ∙ ap (λ (k : ℕ). derived leaves (f k)) more

pub none_given : (leaves : Leaves) (offset : ℕ) (p : Plan) (row : ℕ) → row_value leaves None offset p row ≡ derived leaves (plan_derivation offset p row)
none_given leaves offset p row = ap (derived leaves) (none_given_is (plan_derivation offset p row))

pub each_same : (leaves : Leaves) (offset : ℕ) (p : Plan) (from count : ℕ) (values : List Datum) → map (row_value leaves None offset p) (range_with_len from count) ≡ map Some values → derived_each leaves (each_row (plan_derivation offset p) from count) ≡ Some values
each_same leaves offset p from zero [] are = refl
each_same leaves offset p from zero (v ∷ values) are = absurd cc
each_same leaves offset p from (suc count) [] are = absurd cc
each_same leaves offset p from (suc count) (v ∷ values) are =
    let first : row_value leaves None offset p from ≡ Some v = cc in
    let rest : map (row_value leaves None offset p) (range_with_len (from + 1) count) ≡ map Some values = cc in
    let here : derived leaves (plan_derivation offset p from) ≡ Some v = sym (none_given leaves offset p from) ∙ first in
    let more : derived_each leaves (each_row (plan_derivation offset p) (from + 1) count) ≡ Some values = each_same leaves offset p (from + 1) count values rest in
    rw (here, more) refl
