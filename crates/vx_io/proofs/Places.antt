-- An element at its place in a list.
use Rattle.std.proofs.Common.{◌≡◌, ℕ, zero, suc, ◌+◌, ◌<◌, List, [], ◌∷◌, Some, length, refl, arith}
use Rattle.std.specs.Prelude.{slice_get, slice_index_or, remove}
use Rattle.std.specs.List.{All}
use Rattle.std.proofs.lemmas.List.Elements.{All-head, All-tail, All-cons}

-- what stands within a list is got
pub got : {X : Type 0} (xs : List X) (n : ℕ) (d : X) → n < length xs → slice_get xs n ≡ Some (slice_index_or xs n d)
got [] n d within = absurd (omega (arith, within))
got (x ∷ xs) zero d within = refl
got (x ∷ xs) (suc n) d within = got xs n d (omega (arith, within))

-- and what is got stands there
pub stands_at : {X : Type 0} (xs : List X) (n : ℕ) (x d : X) → slice_get xs n ≡ Some x → slice_index_or xs n d ≡ x
stands_at [] n x d at = absurd cc
stands_at (one ∷ xs) zero x d at = cc
stands_at (one ∷ xs) (suc n) x d at = stands_at xs n x d at

-- what holds of all holds of what is got
pub all_got : {X : Type 0} (P : X → Type 0) (xs : List X) (n : ℕ) (x : X) → All P xs → slice_get xs n ≡ Some x → P x
all_got P [] n x all at = absurd cc
all_got P (one ∷ xs) zero x all at = let same : one ≡ x = cc in rw (← same) (All-head P one xs all)
all_got P (one ∷ xs) (suc n) x all at = all_got P xs n x (All-tail P one xs all) at

-- ---- a list without what stands at a place

pub all_removed : {X : Type 0} (P : X → Type 0) (xs : List X) (n : ℕ) → All P xs → All P (remove xs n)
all_removed P [] zero all = all
all_removed P [] (suc n) all = all
all_removed P (x ∷ xs) zero all = All-tail P x xs all
all_removed P (x ∷ xs) (suc n) all = All-cons P x (remove xs n) (All-head P x xs all) (all_removed P xs n (All-tail P x xs all))

pub size_removed : {X : Type 0} (xs : List X) (n : ℕ) → n < length xs → length (remove xs n) + 1 ≡ length xs
size_removed [] n within = absurd (omega (arith, within))
size_removed (x ∷ xs) zero within = omega arith
size_removed (x ∷ xs) (suc n) within = let rest = size_removed xs n (omega (arith, within)) in omega (arith, rest)
