-- Sums and facts over the views of all seats.
use Rattle.std.proofs.Common.{◌≡◌, ℕ, zero, suc, ◌+◌, ◌≤◌, List, [], ◌∷◌, set, refl, sym, ap, subst, arith}
use Rattle.std.specs.List.{All, sum_by}
use Rattle.std.proofs.lemmas.List.Elements.{All-head, All-tail}
use Rattle.std.proofs.lemmas.List.Sums.{sum_by-cons}
use mathlib.Core.Option.{some, some-injective, some-ne-none}
use lib.ListN.{get_elem?}

module _ {X : Type 0} where
  pub sum_set : (f : X → ℕ) (xs : List X) (i : ℕ) (v w : X) → get_elem? xs i ≡ some v → sum_by f (set xs i w) + f v ≡ sum_by f xs + f w
  sum_set f [] i v w at = absurd (some-ne-none v (sym at))
  sum_set f (x ∷ xs) zero v w at =
      let same : f x ≡ f v = ap f (some-injective x v at) in
      let before = sum_by-cons f x xs in
      let after = sum_by-cons f w xs in
      omega (arith, same, before, after)
  sum_set f (x ∷ xs) (suc i) v w at =
      let rest = sum_set f xs i v w at in
      let before = sum_by-cons f x xs in
      let after = sum_by-cons f x (set xs i w) in
      omega (arith, rest, before, after)

  pub at_most_sum : (f : X → ℕ) (xs : List X) (i : ℕ) (v : X) → get_elem? xs i ≡ some v → f v ≤ sum_by f xs
  at_most_sum f [] i v at = absurd (some-ne-none v (sym at))
  at_most_sum f (x ∷ xs) zero v at =
      let same : f x ≡ f v = ap f (some-injective x v at) in
      let cons = sum_by-cons f x xs in
      omega (arith, same, cons)
  at_most_sum f (x ∷ xs) (suc i) v at =
      let rest = at_most_sum f xs i v at in
      let cons = sum_by-cons f x xs in
      omega (arith, rest, cons)

  pub all_at : (P : X → Type 0) (xs : List X) (i : ℕ) (v : X) → All P xs → get_elem? xs i ≡ some v → P v
  all_at P [] i v all at = absurd (some-ne-none v (sym at))
  all_at P (x ∷ xs) zero v all at = subst P (some-injective x v at) (All-head P x xs all)
  all_at P (x ∷ xs) (suc i) v all at = all_at P xs i v (All-tail P x xs all) at

  pub set_there : (xs : List X) (i : ℕ) (v w : X) → get_elem? xs i ≡ some v → get_elem? (set xs i w) i ≡ some w
  set_there [] i v w at = absurd (some-ne-none v (sym at))
  set_there (x ∷ xs) zero v w at = refl
  set_there (x ∷ xs) (suc i) v w at = set_there xs i v w at
