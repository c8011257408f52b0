-- Lists that agree place by place.
use Rattle.std.proofs.Common.{◌≡◌, ℕ, ◌+◌, ◌<◌, true, not, List, [], ◌∷◌, length, map, get_or, take, refl, arith}
use Rattle.std.specs.Str.{bytes_eq}
use Rattle.std.proofs.lemmas.Slice.Eq.{bytes_eq-Decides}
use Rattle.std.proofs.lemmas.List.{take_more, map-append}

-- lists that agree so far, and at the next place
pub agree_more : {X Y : Type 0} (f : X → Y) (xs ys : List X) (i : ℕ) (x y : X) → i < length xs → length xs ≡ length ys → x ≡ get_or xs i x → y ≡ get_or ys i y → f x ≡ f y
    → map f (take i xs) ≡ map f (take i ys) → map f (take (i + 1) xs) ≡ map f (take (i + 1) ys)
agree_more f xs ys i x y lt len p q same so_far =
    let one = take_more xs i x lt in
    let two = take_more ys i y (omega arith) in
    rw (one, two, ← p, ← q, map-append f (take i xs) (x ∷ []), map-append f (take i ys) (y ∷ []), so_far, same) refl

pub not_unequal : (xs ys : List ℕ) → xs ≡ ys → not (bytes_eq xs ys) ≡ true → ⊥
not_unequal xs ys e h =
    let yes : bytes_eq xs ys ≡ true = (bytes_eq-Decides xs ys).1 e in
    cc
