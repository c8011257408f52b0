-- How often numbers stand in lists, and a number above them.
use Rattle.std.proofs.Common.{◌≡◌, ◌≢◌, ℕ, zero, suc, ◌+◌, ◌<◌, ◌≤◌, ◌⊎◌, inl, inr, List, [], ◌∷◌, ◌++◌, length, refl, ap, ◌∙◌, arith}
use Rattle.std.specs.Prelude.{slice_index_or, ◌==◌, if◌then◌else◌}
use Rattle.std.specs.List.{All}
use Rattle.std.proofs.lemmas.Bool.{eq-eqb, ne_eqb, cases_lt, lt-ltb, le-ltb}
use Rattle.std.proofs.lemmas.List.Elements.{All-head, All-tail}
use Rattle.std.proofs.lemmas.List.Sums.{sum_by-append, sum_by-cons}
use Rattle.vx_claims.specs.Views.{above}
use Rattle.vx_claims.specs.Apart.{times, once_below}

-- 1 at the number
abbrev pub is_one : ℕ → ℕ → ℕ
is_one x n = if n == x then 1 else 0

pub times_append : (x : ℕ) (ns ms : List ℕ) → times x (ns ++ ms) ≡ times x ns + times x ms
times_append x ns ms = sum_by-append (is_one x) ns ms

pub times_itself : (x : ℕ) (ns : List ℕ) → times x (x ∷ ns) ≡ 1 + times x ns
times_itself x ns = let cons : times x (x ∷ ns) ≡ is_one x x + times x ns = sum_by-cons (is_one x) x ns in let here : is_one x x ≡ 1 = rw (eq-eqb x x refl) refl in omega (arith, cons, here)

pub times_other : (x n : ℕ) (ns : List ℕ) → n ≢ x → times x (n ∷ ns) ≡ times x ns
times_other x n ns differs = let cons : times x (n ∷ ns) ≡ is_one x n + times x ns = sum_by-cons (is_one x) n ns in let here : is_one x n ≡ 0 = rw (ne_eqb n x differs) refl in omega (arith, cons, here)

-- a number that stands in a list
pub stands : (ns : List ℕ) (k d : ℕ) → k < length ns → 1 ≤ times (slice_index_or ns k d) ns
stands [] k d within = absurd (omega (arith, within))
stands (n ∷ ns) zero d within = let here = times_itself n ns in omega (arith, here)
stands (n ∷ ns) (suc k) d within =
    let x : ℕ = slice_index_or ns k d in
    let rest = stands ns k d (omega (arith, within)) in
    let more : times x (n ∷ ns) ≡ times x (n ∷ []) + times x ns = times_append x (n ∷ []) ns in
    omega (arith, rest, more)

-- a number that is not below what all are below
pub times_above : (x n : ℕ) (ns : List ℕ) → All (λ m. m < n) ns → n ≤ x → times x ns ≡ 0
times_above x n [] below least = refl
times_above x n (m ∷ ms) below least =
    let here = All-head (λ y. y < n) m ms below in
    let rest = times_above x n ms (All-tail (λ y. y < n) m ms below) least in
    let other = times_other x m ms (λ same. absurd (omega (arith, here, least, same))) in
    omega (arith, rest, other)

pub once_yes : (n x : ℕ) → x < n → once_below n x ≡ 1
once_yes n x less = rw (lt-ltb x n less) refl

pub once_no : (n x : ℕ) → n ≤ x → once_below n x ≡ 0
once_no n x least = rw (le-ltb x n least) refl

-- one more number below
pub once_next : (n x : ℕ) → once_below (n + 1) x ≡ once_below n x + times x (n ∷ [])
once_next n x = by_order (cases_lt x n) (cases_lt n x)
  where
    by_order : (x < n) ⊎ (n ≤ x) → (n < x) ⊎ (x ≤ n) → once_below (n + 1) x ≡ once_below n x + times x (n ∷ [])
    by_order (inl less) other =
        let before = once_yes n x less in
        let after = once_yes (n + 1) x (omega (arith, less)) in
        let here = times_other x n [] (λ same. absurd (omega (arith, less, same))) in
        omega (arith, before, after, here)
    by_order (inr least) (inl more) =
        let before = once_no n x least in
        let after = once_no (n + 1) x (omega (arith, more)) in
        let here = times_other x n [] (λ same. absurd (omega (arith, more, same))) in
        omega (arith, before, after, here)
    by_order (inr least) (inr most) =
        let same : n ≡ x = omega (arith, least, most) in
        let before = once_no n x least in
        let after = once_yes (n + 1) x (omega (arith, most)) in
        let here : times x (n ∷ []) ≡ 1 = ap (λ (m : ℕ). times x (m ∷ [])) same ∙ times_itself x [] in
        omega (arith, before, after, here)

pub once_at_most : (n x : ℕ) → once_below n x ≤ 1
once_at_most n x = by_order (cases_lt x n)
  where
    by_order : (x < n) ⊎ (n ≤ x) → once_below n x ≤ 1
    by_order (inl less) = let e = once_yes n x less in omega (arith, e)
    by_order (inr least) = let e = once_no n x least in omega (arith, e)

-- ---- a number above

pub above_below : (n : ℕ) (ns : List ℕ) → All (λ x. x < n) ns → above ns ≤ n
above_below n [] below = omega arith
above_below n (x ∷ xs) below =
    let here = All-head (λ y. y < n) x xs below in
    let rest = above_below n xs (All-tail (λ y. y < n) x xs below) in
    omega (arith, here, rest)

pub above_push : (ns : List ℕ) (n : ℕ) → above ns ≤ n → above (ns ++ n ∷ []) ≡ n + 1
above_push [] n least = omega arith
above_push (x ∷ xs) n least =
    let rest = above_push xs n (omega (arith, least)) in
    omega (arith, rest, least)
