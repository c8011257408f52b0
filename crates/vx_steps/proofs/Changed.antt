-- One element of a list is put in place of another.
use Rattle.std.proofs.Common.{◌≡◌, set, ℕ, zero, suc, ◌⊎◌, inl, inr, ⊎_elim, List, [], ◌∷◌, Some, map, refl, sym, ap, ◌∙◌}
use Rattle.std.specs.List.{slice_get}
use Rattle.std.proofs.lemmas.Option.{same_Some}
use Rattle.vx_steps.specs.Needs.{Among}

-- it stands at the place
pub changed_at : {X : Type 0} (xs : List X) (place : ℕ) (x y : X) → slice_get xs place ≡ Some x → slice_get (set xs place y) place ≡ Some y
changed_at [] place x y at = absurd cc
changed_at (z ∷ xs) zero x y at = refl
changed_at (z ∷ xs) (suc place) x y at = changed_at xs place x y at

-- what is among them now is that, or was before
pub changed_either : {X : Type 0} (xs : List X) (place : ℕ) (y z : X) → Among z (set xs place y) → (y ≡ z) ⊎ Among z xs
changed_either [] place y z among = absurd among
changed_either (x ∷ xs) zero y z (inl e) = inl e
changed_either (x ∷ xs) zero y z (inr more) = inr (inr more)
changed_either (x ∷ xs) (suc place) y z (inl e) = inr (inl e)
changed_either (x ∷ xs) (suc place) y z (inr more) = ⊎_elim (λ (e : y ≡ z). inl e) (λ (m : Among z xs). inr (inr m)) (changed_either xs place y z more)

-- what was among them still is, or was the one that stood at the place
pub changed_among : {X : Type 0} (xs : List X) (place : ℕ) (x y z : X) → slice_get xs place ≡ Some x → Among z xs → (x ≡ z) ⊎ Among z (set xs place y)
changed_among [] place x y z at among = absurd among
changed_among (w ∷ xs) zero x y z at (inl e) = inl (sym (same_Some w x at) ∙ e)
changed_among (w ∷ xs) zero x y z at (inr more) = inr (inr more)
changed_among (w ∷ xs) (suc place) x y z at (inl e) = inr (inl e)
changed_among (w ∷ xs) (suc place) x y z at (inr more) = ⊎_elim (λ (e : x ≡ z). inl e) (λ (m : Among z (set xs place y)). inr (inr m)) (changed_among xs place x y z at more)

-- where both have the same image, the images are the same
pub changed_same : {X Y : Type 0} (f : X → Y) (xs : List X) (place : ℕ) (x y : X) → slice_get xs place ≡ Some x → f y ≡ f x → map f (set xs place y) ≡ map f xs
changed_same {X} {Y} f [] place x y at same = absurd cc
changed_same {X} {Y} f (z ∷ xs) zero x y at same = ap (λ (v : Y). v ∷ map f xs) (same ∙ ap f (sym (same_Some z x at)))
changed_same {X} {Y} f (z ∷ xs) (suc place) x y at same = ap (λ (vs : List Y). f z ∷ vs) (changed_same f xs place x y at same)
