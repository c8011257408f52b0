-- Rows of a range, and rows that a mask leaves out: what holds of them whatever they are.
use Rattle.std.proofs.Common.{◌≡◌, ℕ, zero, suc, ◌+◌, ◌-◌, ◌≤◌, Bool, true, false, List, [], ◌∷◌, length, take, drop, refl, ap, ◌∙◌, arith}
use Rattle.std.specs.List.{slice_range}
use Rattle.std.proofs.lemmas.List.{drop-drop, length-drop}
use Rattle.vx_masks.specs.Rows.{NullsHold}

length_front : {X : Type 0} (n : ℕ) (xs : List X) → n ≤ length xs → length (take n xs) ≡ n
length_front zero xs h = refl
length_front (suc n) [] h = absurd (omega arith)
length_front (suc n) (x ∷ xs) h = omega (arith, length_front n xs (omega arith))

pub range_len : {X : Type 0} (xs : List X) (from to : ℕ) → from ≤ to → to ≤ length xs → length (slice_range xs from to) ≡ to - from
range_len xs from to low high = length_front (to - from) (drop from xs) (omega (arith, length-drop from xs, low, high))

pub none_hold : {X : Type 0} (blank : X) (mask : List Bool) → NullsHold blank mask []
none_hold blank [] = tt
none_hold blank (true ∷ mask) = tt
none_hold blank (false ∷ mask) = tt

-- a range of a range
short : {X : Type 0} (n a m : ℕ) (xs : List X) → n ≤ m - a → take n (drop a (take m xs)) ≡ take n (drop a xs)
short zero a m xs h = refl
short (suc n) zero zero xs h = absurd (omega arith)
short (suc n) (suc a) zero xs h = absurd (omega arith)
short (suc n) zero (suc m) [] h = refl
short (suc n) (suc a) (suc m) [] h = refl
short {X} (suc n) zero (suc m) (x ∷ xs) h = ap (λ (ys : List X). x ∷ ys) (short n zero m xs (omega arith))
short (suc n) (suc a) (suc m) (x ∷ xs) h = short (suc n) a m xs (omega arith)

pub range_of_range : {X : Type 0} (xs : List X) (from to a b : ℕ) → b ≤ to - from → slice_range (slice_range xs from to) a b ≡ slice_range xs (from + a) (from + b)
range_of_range xs from to a b high =
    let size : b - a ≡ (from + b) - (from + a) = omega arith in
    short (b - a) a (to - from) (drop from xs) (omega (arith, high)) ∙ ap (take (b - a)) (drop-drop a from xs) ∙ ap (λ (n : ℕ). take n (drop (from + a) xs)) size
