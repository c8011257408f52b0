-- Rows without a fault.
use Rattle.std.proofs.Common.{◌≡◌, List, [], ◌∷◌, map, Option, Some, refl, sym, ap, ◌∙◌}
use Rattle.vx_operators.specs.Rows.{front}

pub front_somes : {A : Type 0} (xs : List A) → front (map (λ x. Some x) xs) ≡ xs
front_somes [] = refl
front_somes {A} (x ∷ xs) = ap (λ (ys : List A). x ∷ ys) (front_somes xs)

pub somes_front : {A : Type 0} (xs : List A) (ys : List (Option A)) → map Some xs ≡ ys → xs ≡ front ys
somes_front xs ys e = sym (front_somes xs) ∙ ap front e
