-- Numbers that are apart and below a bound weigh at most as much as all numbers below it.
use Rattle.std.proofs.Common.{◌≡◌, ◌≢◌, ℕ, zero, suc, ◌+◌, ◌<◌, ◌≤◌, ◌⊎◌, inl, inr, List, [], ◌∷◌, ◌++◌, refl, sym, ap, ◌∙◌, arith}
use Rattle.std.specs.Prelude.{if◌then◌else◌, ◌==◌}
use Rattle.std.specs.List.{sum_by}
use Rattle.std.proofs.lemmas.Bool.{eq-eqb, ne_eqb, cases_lt}
use Rattle.std.proofs.lemmas.List.Sums.{sum_by-cons, sum_by-append}
use native.Mathlib.Decide.{ℕ_discrete}
use mathlib.Core.Logic.{dite}
use Rattle.vx_claims.specs.Apart.{times, times_over, once_below, sum_below, weight_of, ApartWeighAtMost}
use Rattle.vx_claims.proofs.Numbers.{times_append, times_itself, times_other, once_no, once_at_most}
use Rattle.vx_claims.proofs.Wholes.{apart_once}

-- ---- weights of one list

-- the weights, with none at one number
abbrev pub without : (ℕ → ℕ) → ℕ → ℕ → ℕ
without weight number other = if other == number then 0 else weight other

pub without_other : (weight : ℕ → ℕ) (number other : ℕ) → other ≢ number → without weight number other ≡ weight other
without_other weight number other differs = rw (ne_eqb other number differs) refl

without_itself : (weight : ℕ → ℕ) (number : ℕ) → without weight number number ≡ 0
without_itself weight number = rw (eq-eqb number number refl) refl

below_it : (weight : ℕ → ℕ) (number n : ℕ) → n ≤ number → sum_below (without weight number) n ≡ sum_below weight n
below_it weight number zero le = refl
below_it weight number (suc n) le =
    let here = without_other weight number n (λ same. absurd (omega (arith, le, same))) in
    let rest = below_it weight number n (omega (arith, le)) in
    omega (arith, here, rest)

pub above_it : (weight : ℕ → ℕ) (number n : ℕ) → number < n → sum_below (without weight number) n + weight number ≡ sum_below weight n
above_it weight number zero lt = absurd (omega (arith, lt))
above_it weight number (suc n) lt = by_order (above_it weight number n) (cases_lt number n)
  where
    by_order : (number < n → sum_below (without weight number) n + weight number ≡ sum_below weight n) → (number < n) ⊎ (n ≤ number) → sum_below (without weight number) (suc n) + weight number ≡ sum_below weight (suc n)
    by_order so_far (inl less) =
        let here = without_other weight number n (λ same. absurd (omega (arith, less, same))) in
        let rest = so_far less in
        omega (arith, here, rest)
    by_order so_far (inr least) =
        let same : number ≡ n = omega (arith, least, lt) in
        let here : without weight number n ≡ 0 = ap (without weight number) (sym same) ∙ without_itself weight number in
        let there : weight number ≡ weight n = ap weight same in
        let rest = below_it weight number n least in
        omega (arith, here, there, rest)

none_there : (weight : ℕ → ℕ) (number : ℕ) (ns : List ℕ) → times number ns ≡ 0 → sum_by (without weight number) ns ≡ sum_by weight ns
none_there weight number [] none = refl
none_there weight number (n ∷ ns) none = dite (ℕ_discrete n number) (λ same. absurd (found same)) (differs (none_there weight number ns))
  where
    found : n ≡ number → ⊥
    found same =
        let here : times number (n ∷ ns) ≡ 1 + times number ns = ap (λ (m : ℕ). times number (m ∷ ns)) same ∙ times_itself number ns in
        absurd (omega (arith, here, none))

    differs : (times number ns ≡ 0 → sum_by (without weight number) ns ≡ sum_by weight ns) → n ≢ number → sum_by (without weight number) (n ∷ ns) ≡ sum_by weight (n ∷ ns)
    differs so_far apart =
        let other = times_other number n ns apart in
        let rest = so_far (omega (arith, other, none)) in
        let here = without_other weight number n apart in
        let one = sum_by-cons (without weight number) n ns in
        let two = sum_by-cons weight n ns in
        omega (arith, rest, here, one, two)

pub weighs_at_most : (weight : ℕ → ℕ) (n : ℕ) (ns : List ℕ) → ((x : ℕ) → times x ns ≤ once_below n x) → sum_by weight ns ≤ sum_below weight n
weighs_at_most weight n [] apart = omega arith
weighs_at_most weight n (m ∷ ms) apart =
    let itself = times_itself m ms in
    let most = apart m in
    let one = once_at_most n m in
    let none : times m ms ≡ 0 = omega (arith, itself, most, one) in
    let within = is_below (cases_lt m n) in
    let rest = weighs_at_most (without weight m) n ms (λ x. let more = times_append x (m ∷ []) ms in let all = apart x in omega (arith, more, all)) in
    let same = none_there weight m ms none in
    let whole = above_it weight m n within in
    let cons = sum_by-cons weight m ms in
    omega (arith, rest, same, whole, cons)
  where
    is_below : (m < n) ⊎ (n ≤ m) → m < n
    is_below (inl less) = less
    is_below (inr least) = let itself = times_itself m ms in let most = apart m in let no = once_no n m least in absurd (omega (arith, itself, most, no))

-- ---- weights of lists

-- the numbers of all lists, one list after the other
abbrev joined : List (List ℕ) → List ℕ
joined [] = []
joined (list ∷ lists) = list ++ joined lists

weighs_joined : (weight : ℕ → ℕ) (lists : List (List ℕ)) → sum_by weight (joined lists) ≡ weight_of weight lists
weighs_joined weight [] = refl
weighs_joined weight (list ∷ lists) =
    let here = sum_by-append weight list (joined lists) in
    let rest = weighs_joined weight lists in
    let cons : weight_of weight (list ∷ lists) ≡ sum_by weight list + weight_of weight lists = sum_by-cons (sum_by weight) list lists in
    omega (arith, here, rest, cons)

times_joined : (x : ℕ) (lists : List (List ℕ)) → times x (joined lists) ≡ times_over x lists
times_joined x [] = refl
times_joined x (list ∷ lists) =
    let here = times_append x list (joined lists) in
    let rest = times_joined x lists in
    let cons : times_over x (list ∷ lists) ≡ times x list + times_over x lists = sum_by-cons (times x) list lists in
    omega (arith, here, rest, cons)

pub weigh_at_most : ApartWeighAtMost
weigh_at_most weight n lists apart =
    let whole = weighs_at_most weight n (joined lists) (λ x. let same = times_joined x lists in let most = apart_once n lists apart x in omega (arith, same, most)) in
    let sum = weighs_joined weight lists in
    omega (arith, whole, sum)
