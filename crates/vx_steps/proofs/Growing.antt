-- Lists of wanted segments that grow, and their fronts.
use Rattle.std.proofs.Common.{◌≡◌, ℕ, zero, suc, ◌+◌, ◌<◌, ◌≤◌, List, [], ◌∷◌, ◌++◌, Option, Some, length, take, refl, sym, ap, subst, add-one, arith}
use Rattle.std.specs.Prelude.{slice_set, slice_index_or, IsSomeAnd}
use Rattle.std.specs.List.{slice_get}
use Rattle.vx_steps.specs.ReadTable.{StandsAt}
use Rattle.vx_steps.specs.ReadTableData.{Wanted}
use Rattle.vx_steps.specs.Wants.{Grows}
use Rattle.vx_steps.proofs.Indexing.{take_one}

-- ---- elements at a place

-- within the list the default is not looked at
pub got_same : {X : Type 0} (xs : List X) (i : ℕ) (d e : X) → i < length xs → slice_index_or xs i d ≡ slice_index_or xs i e
got_same [] i d e within = absurd (omega (arith, within))
got_same (one ∷ xs) zero d e within = refl
got_same (one ∷ xs) (suc i) d e within = got_same xs i d e (omega (arith, within))

pub take_got : {X : Type 0} (xs : List X) (i : ℕ) (x : X) → slice_get xs i ≡ Some x → take (i + 1) xs ≡ take i xs ++ x ∷ []
take_got xs i x here = rw add-one (take_one xs i x here)

-- the front behind a place at which an element was set
pub take_set : {X : Type 0} (xs : List X) (n i : ℕ) (x : X) → i < n → take n (slice_set xs i x) ≡ slice_set (take n xs) i x
take_set xs zero i x below = absurd (omega (arith, below))
take_set [] (suc n) i x below = refl
take_set (one ∷ xs) (suc n) zero x below = refl
take_set (one ∷ xs) (suc n) (suc i) x below = ap (λ ys. one ∷ ys) (take_set xs n i x (omega (arith, below)))

-- the element at a place of a front
pub got_front : {X : Type 0} (xs : List X) (n i : ℕ) → i < n → slice_get (take n xs) i ≡ slice_get xs i
got_front xs zero i below = absurd (omega (arith, below))
got_front [] (suc n) i below = refl
got_front (one ∷ xs) (suc n) zero below = refl
got_front (one ∷ xs) (suc n) (suc i) below = got_front xs n i (omega (arith, below))

-- ---- lists that grow

pub take_grown : (old new : List Wanted) (n : ℕ) → Grows old new → n ≤ length old → take n new ≡ take n old
take_grown old new zero grows inside = refl
take_grown [] new (suc n) grows inside = absurd (omega (arith, inside))
take_grown (w ∷ old) [] (suc n) grows inside = absurd (let here : slice_get [] 0 ≡ Some w = grows 0 w refl in cc)
take_grown (w ∷ old) (v ∷ new) (suc n) grows inside =
    let here : Some v ≡ Some w = grows 0 w refl in
    let head : v ≡ w = cc in
    let rest = take_grown old new n (λ place u at. grows (suc place) u at) (omega (arith, inside)) in
    (λ i. head i ∷ rest i)

pub length_grown : (old new : List Wanted) → Grows old new → length old ≤ length new
length_grown [] new grows = omega arith
length_grown (w ∷ old) [] grows = absurd (let here : slice_get [] 0 ≡ Some w = grows 0 w refl in cc)
length_grown (w ∷ old) (v ∷ new) grows = let rest = length_grown old new (λ place u at. grows (suc place) u at) in omega (arith, rest)

-- ---- segments at a place

pub stands_by : (wanted : List Wanted) (place : ℕ) (w : Wanted) → slice_get wanted place ≡ Some w → StandsAt wanted w.segment place
stands_by wanted place w at =
    let P : Option Wanted → Type 0 = λ o. IsSomeAnd o (λ v. v.segment ≡ w.segment) in
    subst P (sym at) refl
