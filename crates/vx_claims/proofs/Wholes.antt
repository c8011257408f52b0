-- Lists that are apart or whole for a bound, by how often each number stands in them.
use Rattle.std.proofs.Common.{◌≡◌, ℕ, ◌+◌, ◌<◌, ◌≤◌, ◌⊎◌, inl, inr, List, [], ◌∷◌, refl, arith}
use Rattle.std.specs.Prelude.{min, slice_index_or}
use Rattle.std.specs.List.{All}
use Rattle.std.proofs.lemmas.Bool.{cases_lt}
use Rattle.std.proofs.lemmas.List.Elements.{All-nil, All-cons, All-head, All-tail}
use Rattle.std.proofs.lemmas.List.Sums.{sum_by-cons}
use Rattle.vx_claims.specs.declared.claims.ClaimSeat.{ClaimSeat}
use Rattle.vx_claims.specs.Apart.{times, times_over, once_below, AreApart, AreWhole}
use Rattle.vx_claims.specs.Claims.{claimed, Closes, ClosedAreApart, ClosedAreWhole}
use Rattle.vx_claims.proofs.Numbers.{times_above, stands, once_yes, once_no, once_at_most}

-- a number that is not below what all numbers of the lists are below
over_above : (n x : ℕ) (lists : List (List ℕ)) → All (All (λ y. y < n)) lists → n ≤ x → times_over x lists ≡ 0
over_above n x [] below least = refl
over_above n x (list ∷ lists) below least =
    let here = times_above x n list (All-head (All (λ y. y < n)) list lists below) least in
    let rest = over_above n x lists (All-tail (All (λ y. y < n)) list lists below) least in
    let cons : times_over x (list ∷ lists) ≡ times x list + times_over x lists = sum_by-cons (times x) list lists in
    omega (arith, here, rest, cons)

pub apart_once : (n : ℕ) (lists : List (List ℕ)) → AreApart n lists → (x : ℕ) → times_over x lists ≤ once_below n x
apart_once n lists apart x = by_order (apart.once x) (cases_lt x n)
  where
    by_order : times_over x lists ≤ 1 → (x < n) ⊎ (n ≤ x) → times_over x lists ≤ once_below n x
    by_order most (inl less) = let yes = once_yes n x less in omega (arith, most, yes)
    by_order most (inr least) = let none = over_above n x lists apart.below least in omega (arith, none)

list_below : (n : ℕ) (list : List ℕ) → ((x : ℕ) → times x list ≤ once_below n x) → All (λ x. x < n) list
list_below n list once k d lt =
    let x : ℕ = slice_index_or list k d in
    is_below x (stands list k d lt) (once x) (cases_lt x n)
  where
    is_below : (x : ℕ) → 1 ≤ times x list → times x list ≤ once_below n x → (x < n) ⊎ (n ≤ x) → x < n
    is_below x some most (inl less) = less
    is_below x some most (inr least) = let no = once_no n x least in absurd (omega (arith, some, most, no))

all_below : (n : ℕ) (lists : List (List ℕ)) → ((x : ℕ) → times_over x lists ≤ once_below n x) → All (All (λ x. x < n)) lists
all_below n [] once = All-nil (All (λ x. x < n))
all_below n (list ∷ lists) once = All-cons (All (λ x. x < n)) list lists
    (list_below n list (λ x. let most = once x in let more = cons x in omega (arith, most, more)))
    (all_below n lists (λ x. let most = once x in let more = cons x in omega (arith, most, more)))
  where
    cons : (x : ℕ) → times_over x (list ∷ lists) ≡ times x list + times_over x lists
    cons x = sum_by-cons (times x) list lists

pub once_apart : (n : ℕ) (lists : List (List ℕ)) → ((x : ℕ) → times_over x lists ≤ once_below n x) → AreApart n lists
once_apart n lists once = record {
  below = all_below n lists once;
  once = λ x. let most = once x in let one = once_at_most n x in omega (arith, most, one);
}

pub each_whole : (n : ℕ) (lists : List (List ℕ)) → ((x : ℕ) → times_over x lists ≡ once_below n x) → AreWhole n lists
each_whole n lists each = record {
  apart = once_apart n lists (λ x. let same = each x in omega (arith, same));
  each = λ x less. let same = each x in let yes = once_yes n x less in omega (arith, same, yes);
}

-- ---- the lists that make up the list of a seat

closed_once : (count word : ℕ) (seat : ClaimSeat) → Closes count seat word → (x : ℕ) → times x (claimed seat) ≤ once_below count x
closed_once count word seat closes x = by_order (closes.once x) (cases_lt x count)
  where
    by_order : times x (claimed seat) ≤ 1 → (x < count) ⊎ (count ≤ x) → times x (claimed seat) ≤ once_below count x
    by_order most (inl less) = let yes = once_yes count x less in omega (arith, most, yes)
    by_order most (inr least) = let none = times_above x (min word count) (claimed seat) closes.below (omega (arith, least)) in omega (arith, none)

pub closed_apart : ClosedAreApart
closed_apart count word seat lists closes made = once_apart count lists (λ x. let same = made x in let most = closed_once count word seat closes x in omega (arith, same, most))

pub closed_whole : ClosedAreWhole
closed_whole count word seat lists closes made all told = record {
  apart = closed_apart count word seat lists closes made;
  each = λ x less. let same = made x in let one = closes.each all told x less in omega (arith, same, one);
}
