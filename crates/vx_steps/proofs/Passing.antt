-- Needs in the order of their last rows.
use Rattle.std.proofs.Common.{◌≡◌, ℕ, zero, suc, ◌<◌, ◌≤◌, inl, inr, List, [], ◌∷◌, Some, length, drop, get_or, refl, sym, ap, subst, arith}
use Rattle.std.specs.List.{slice_get}
use Rattle.std.specs.List.Sorted.{IsNonDecreasingBy}
use Rattle.std.proofs.lemmas.Option.{get_or_from_slice_get, slice_get_within}
use Rattle.vx_steps.specs.declared.placed_reads.PlacedRead.{PlacedRead}
use Rattle.vx_steps.specs.Needs.{Among}
use Rattle.vx_steps.specs.OpenNeeds.{EndBehind}

drop_none : (xs : List PlacedRead) → drop zero xs ≡ xs
drop_none [] = refl
drop_none (x ∷ xs) = refl

-- a need behind the first so many stands at a place that is not one of theirs
dropped_at : (n : ℕ) (xs : List PlacedRead) (x : PlacedRead) → Among x (drop n xs) → (place : ℕ) × (n ≤ place) × (slice_get xs place ≡ Some x)
dropped_at zero [] x among = absurd among
dropped_at zero (y ∷ xs) x (inl e) = (0, omega arith, ap Some e)
dropped_at zero (y ∷ xs) x (inr more) =
    let r = dropped_at zero xs x (subst (λ (ys : List PlacedRead). Among x ys) (sym (drop_none xs)) more) in
    (suc r.0, omega arith, r.2)
dropped_at (suc n) [] x among = absurd among
dropped_at (suc n) (y ∷ xs) x among =
    let r = dropped_at n xs x among in
    let behind = r.1 in
    (suc r.0, omega arith, r.2)

pub ends_behind : (xs : List PlacedRead) (n place : ℕ) (x : PlacedRead) → IsNonDecreasingBy (λ (need : PlacedRead). need.last) xs → n < length xs → x ≡ get_or xs n x → place ≤ x.last → EndBehind place (drop n xs)
ends_behind xs n place x sorted less is late need among =
    let r = dropped_at n xs need among in
    let at : get_or xs r.0 x ≡ need = get_or_from_slice_get xs r.0 need x r.2 in
    let le = sorted n r.0 x r.1 (slice_get_within xs r.0 need r.2) in
    omega (arith, le, ap (λ (y : PlacedRead). y.last) is, ap (λ (y : PlacedRead). y.last) at)
