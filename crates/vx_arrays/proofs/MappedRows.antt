-- Rows that are seen as something else: seen row by row, and picked, in either order.
use Rattle.std.proofs.Common.{◌≡◌, ℕ, zero, suc, ◌-◌, ◌<◌, Bool, true, false, List, [], ◌∷◌, ◌++◌, length, map, get_or, take, drop, refl, sym, ap, ◌∙◌, arith}
use Rattle.std.specs.List.{slice_range}
use Rattle.std.proofs.lemmas.List.{drop-map, take-map, map-append}
use Rattle.vx_masks.specs.Masks.{chosen}
use Rattle.vx_masks.specs.Rows.{taken}

pub map_range : {X Y : Type 0} (f : X → Y) (xs : List X) (from to : ℕ) → map f (slice_range xs from to) ≡ slice_range (map f xs) from to
map_range f xs from to = sym (take-map f (to - from) (drop from xs)) ∙ ap (take (to - from)) (sym (drop-map f from xs))

pub map_chosen : {X Y : Type 0} (f : X → Y) (bits : List Bool) (xs : List X) → map f (chosen bits xs) ≡ chosen bits (map f xs)
map_chosen f [] xs = refl
map_chosen f (true ∷ bits) [] = refl
map_chosen f (false ∷ bits) [] = refl
map_chosen {X} {Y} f (true ∷ bits) (x ∷ xs) = ap (λ (ys : List Y). f x ∷ ys) (map_chosen f bits xs)
map_chosen f (false ∷ bits) (x ∷ xs) = map_chosen f bits xs

pub map_range_chosen : {X Y : Type 0} (f : X → Y) (bits : List Bool) (xs : List X) (from to : ℕ) → map f (chosen bits (slice_range xs from to)) ≡ chosen bits (slice_range (map f xs) from to)
map_range_chosen f bits xs from to = map_chosen f bits (slice_range xs from to) ∙ ap (chosen bits) (map_range f xs from to)

pub map_get_or : {X Y : Type 0} (f : X → Y) (blank : X) (xs : List X) (place : ℕ) → f (get_or xs place blank) ≡ get_or (map f xs) place (f blank)
map_get_or f blank [] place = refl
map_get_or f blank (x ∷ xs) zero = refl
map_get_or f blank (x ∷ xs) (suc place) = map_get_or f blank xs place

pub map_taken : {X Y : Type 0} (f : X → Y) (blank : X) (xs : List X) (places : List ℕ) → map f (taken blank xs places) ≡ taken (f blank) (map f xs) places
map_taken f blank xs [] = refl
map_taken f blank xs (place ∷ places) = λ i. map_get_or f blank xs place i ∷ map_taken f blank xs places i

pub map_joined : {X Y : Type 0} (f : X → Y) (xs ys : List X) → map f (xs ++ ys) ≡ map f xs ++ map f ys
map_joined f xs ys = map-append f xs ys

-- ---- lists that agree under the same view

pub same_at : {X Y : Type 0} (f : X → Y) (xs ys : List X) (i : ℕ) (x y : X) → i < length xs → length xs ≡ length ys → x ≡ get_or xs i x → y ≡ get_or ys i y → map f xs ≡ map f ys → f x ≡ f y
same_at {X} {Y} f xs ys i x y lt len p q same =
    ap f p ∙ map_get_or f x xs i ∙ ap (λ (zs : List Y). get_or zs i (f x)) same ∙ sym (map_get_or f x ys i) ∙ ap f (other_default ys i x y (len_lt len lt)) ∙ ap f (sym q)
  where
    len_lt : {m n k : ℕ} → m ≡ n → k < m → k < n
    len_lt e h = omega arith

    other_default : {Z : Type 0} (zs : List Z) (k : ℕ) (a b : Z) → k < length zs → get_or zs k a ≡ get_or zs k b
    other_default [] k a b h = absurd (omega arith)
    other_default (z ∷ zs) zero a b h = refl
    other_default (z ∷ zs) (suc k) a b h = other_default zs k a b (omega arith)
