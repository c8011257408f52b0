-- The element at a place of a list.
use Rattle.std.proofs.Common.{◌≡◌, ℕ, zero, suc, ◌<◌, List, [], ◌∷◌, Some, length, map, sym, subst, ap, arith}
use Rattle.std.specs.Prelude.{slice_get, slice_index_or}
use Rattle.std.specs.List.{AllByRecursion}

pub got_mapped : {X Y : Type 0} (f : X → Y) (xs : List X) (i : ℕ) (x : X) → slice_get xs i ≡ Some x → slice_get (map f xs) i ≡ Some (f x)
got_mapped f [] i x here = absurd cc
got_mapped f (one ∷ xs) zero x here = let same : one ≡ x = cc in ap (λ y. Some (f y)) same
got_mapped f (one ∷ xs) (suc i) x here = got_mapped f xs i x here

pub each_got : {X : Type 0} (P : X → Type 0) (xs : List X) (i : ℕ) (x : X) → slice_get xs i ≡ Some x → AllByRecursion P xs → P x
each_got P [] i x here each = absurd cc
each_got P (one ∷ xs) zero x here each = let same : one ≡ x = cc in subst P same each.0
each_got P (one ∷ xs) (suc i) x here each = each_got P xs i x here each.1

-- what is indexed inside of the list
pub got_at : {X : Type 0} (xs : List X) (i : ℕ) (x : X) → i < length xs → x ≡ slice_index_or xs i x → slice_get xs i ≡ Some x
got_at [] i x within is = absurd (omega (arith, within))
got_at (one ∷ xs) zero x within is = ap Some (sym is)
got_at (one ∷ xs) (suc i) x within is = got_at xs i x (omega (arith, within)) is
