-- The elements of joined lists, and of lists over a range.
use Rattle.std.proofs.Common.{◌≡◌, ℕ, zero, suc, ◌+◌, ◌<◌, List, [], ◌∷◌, ◌++◌, Some, length, map, refl, ap, arith}
use Rattle.std.specs.List.{range_with_len, slice_get}

pub get_front : {X : Type 0} (xs ys : List X) (i : ℕ) → i < length xs → slice_get (xs ++ ys) i ≡ slice_get xs i
get_front [] ys i lt = absurd (omega arith)
get_front (x ∷ xs) ys zero lt = refl
get_front (x ∷ xs) ys (suc i) lt = get_front xs ys i (omega arith)

pub get_behind : {X : Type 0} (xs ys : List X) (i j : ℕ) → j ≡ length xs + i → slice_get (xs ++ ys) j ≡ slice_get ys i
get_behind [] ys i j e = ap (slice_get ys) (let same : j ≡ i = omega arith in same)
get_behind (x ∷ xs) ys i zero e = absurd (omega arith)
get_behind (x ∷ xs) ys i (suc j) e = get_behind xs ys i j (omega arith)

pub get_of_range : {X : Type 0} (f : ℕ → X) (from count i j : ℕ) → i < count → j ≡ from + i → slice_get (map f (range_with_len from count)) i ≡ Some (f j)
get_of_range f from zero i j lt e = absurd (omega arith)
get_of_range f from (suc count) zero j lt e = ap (λ (at : ℕ). Some (f at)) (let same : from ≡ j = omega arith in same)
get_of_range f from (suc count) (suc i) j lt e = get_of_range f (from + 1) count i j (omega arith) (omega arith)
