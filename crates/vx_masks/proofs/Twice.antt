-- Choosing at once and choosing twice.
use Rattle.std.proofs.Common.{true, false, List, [], ◌∷◌, refl, ap}
use Rattle.vx_masks.specs.Masks.{ChoosesTwice}

pub chooses_twice : (X : Type 0) → ChoosesTwice X
chooses_twice X [] [] xs = refl
chooses_twice X [] (true ∷ ranks) xs = refl
chooses_twice X [] (false ∷ ranks) xs = refl
chooses_twice X (false ∷ mask) [] [] = refl
chooses_twice X (false ∷ mask) (true ∷ ranks) [] = refl
chooses_twice X (false ∷ mask) (false ∷ ranks) [] = refl
chooses_twice X (false ∷ mask) ranks (x ∷ xs) = chooses_twice X mask ranks xs
chooses_twice X (true ∷ mask) [] [] = refl
chooses_twice X (true ∷ mask) [] (x ∷ xs) = chooses_twice X mask [] xs
chooses_twice X (true ∷ mask) (true ∷ ranks) [] = refl
chooses_twice X (true ∷ mask) (false ∷ ranks) [] = refl
chooses_twice X (true ∷ mask) (true ∷ ranks) (x ∷ xs) = ap (λ (ys : List X). x ∷ ys) (chooses_twice X mask ranks xs)
chooses_twice X (true ∷ mask) (false ∷ ranks) (x ∷ xs) = chooses_twice X mask ranks xs
