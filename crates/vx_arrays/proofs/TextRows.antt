-- Texts, row by row.
use Rattle.std.proofs.Common.{◌≡◌, ℕ, ◌+◌, List, [], ◌∷◌, ◌++◌, take, Some, sym, ◌∙◌}
use Rattle.std.specs.Prelude.{slice_get}
use Rattle.std.proofs.lemmas.List.{take_more}
use Rattle.std.proofs.lemmas.Option.{slice_get_within}
use Rattle.vx_arrays.proofs.PickedRows.{there_is}

-- ---- one more row of the first ones, and of a range

pub both_more : {X : Type 0} (xs ys : List X) (row : ℕ) (x y : X) → slice_get xs row ≡ Some x → slice_get ys row ≡ Some y → x ≡ y → take row xs ≡ take row ys → take (row + 1) xs ≡ take (row + 1) ys
both_more {X} xs ys row x y at other e h =
    take_more xs row x (slice_get_within xs row x at)
    ∙ (λ i. h i ++ (sym (there_is xs row x at) ∙ e ∙ there_is ys row y other) i ∷ [])
    ∙ sym (take_more ys row y (slice_get_within ys row y other))
