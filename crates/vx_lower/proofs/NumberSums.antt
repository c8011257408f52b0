-- Sums over all numbers below a bound, and over a list in which each number stands so often.
use Rattle.std.proofs.Common.{◌≡◌, ℕ, zero, suc, ◌+◌, ◌<◌, ◌≤◌, Bool, true, false, cond, eqb, List, [], ◌∷◌, ⊎_elim, refl, sym, ap, ◌∙◌, arith}
use Rattle.std.specs.List.{count_by, sum_by, AllByRecursion}
use Rattle.std.proofs.lemmas.Bool.{cases_lt, eq-eqb, ne_eqb}
use Rattle.std.proofs.lemmas.List.Sums.{sum_by-cons}

-- the sum over all numbers below
abbrev pub total : (ℕ → ℕ) → ℕ → ℕ
total f zero = 0
total f (suc n) = total f n + f n

pub total_first : (f : ℕ → ℕ) (n : ℕ) → total f (suc n) ≡ f 0 + total (λ k. f (suc k)) n
total_first f zero = omega arith
total_first f (suc n) = omega (arith, total_first f n)

pub total_both : (f g : ℕ → ℕ) (n : ℕ) → total (λ k. f k + g k) n ≡ total f n + total g n
total_both f g zero = refl
total_both f g (suc n) = omega (arith, total_both f g n)

pub total_same : (f g : ℕ → ℕ) (n : ℕ) → ((k : ℕ) → k < n → f k ≡ g k) → total f n ≡ total g n
total_same f g zero same = refl
total_same f g (suc n) same = omega (arith, total_same f g n (λ k lt. same k (omega arith)), same n (omega arith))

pub total_one_more : (f : ℕ → ℕ) (n : ℕ) → total (λ k. 1 + f k) n ≡ n + total f n
total_one_more f zero = refl
total_one_more f (suc n) = omega (arith, total_one_more f n)

total_none : (n : ℕ) → total (λ k. 0) n ≡ 0
total_none zero = refl
total_none (suc n) = omega (arith, total_none n)

-- ---- one of the numbers

abbrev at_most_once : ℕ → (ℕ → ℕ) → ℕ → ℕ
at_most_once x s k = cond (eqb x k) (s k) 0

other : (x : ℕ) (s : ℕ → ℕ) (k : ℕ) → k < x → at_most_once x s k ≡ 0
other x s k lt = ap (λ (b : Bool). cond b (s k) 0) (ne_eqb x k (λ e. omega (arith, e)))

here : (x : ℕ) (s : ℕ → ℕ) (k : ℕ) → x ≡ k → at_most_once x s k ≡ s x
here x s k is = ap (λ (b : Bool). cond b (s k) 0) (eq-eqb x k is) ∙ ap s (sym is)

before : (s : ℕ → ℕ) (x n : ℕ) → n ≤ x → total (at_most_once x s) n ≡ 0
before s x n le = total_same (at_most_once x s) (λ k. 0) n (λ k lt. other x s k (omega arith)) ∙ total_none n

pub total_of_one : (s : ℕ → ℕ) (x n : ℕ) → x < n → total (at_most_once x s) n ≡ s x
total_of_one s x zero lt = absurd (omega arith)
total_of_one s x (suc n) lt = ⊎_elim
    (λ (h : x < n). let so_far : total (at_most_once x s) n ≡ s x = total_of_one s x n h in let none : at_most_once x s n ≡ 0 = ap (λ (b : Bool). cond b (s n) 0) (ne_eqb x n (λ e. omega (arith, e))) in omega (arith, so_far, none))
    (λ (h : n ≤ x). let so_far : total (at_most_once x s) n ≡ 0 = before s x n h in let one : at_most_once x s n ≡ s x = here x s n (omega arith) in omega (arith, so_far, one))
    (cases_lt x n)

-- ---- each number so often

abbrev pub times : ℕ → ℕ → ℕ
times zero v = 0
times (suc k) v = v + times k v

-- how often a number stands in the list
abbrev pub times_in : List ℕ → ℕ → ℕ
times_in xs k = count_by (λ x. eqb x k) xs

abbrev one_if : Bool → ℕ
one_if b = cond b 1 0

one_more : (b : Bool) (count v : ℕ) → times (cond b 1 0 + count) v ≡ cond b v 0 + times count v
one_more true count v =
    let e : 1 + count ≡ suc count = omega arith in
    let one : times (1 + count) v ≡ v + times count v = ap (λ (n : ℕ). times n v) e in
    one
one_more false count v =
    let e : 0 + count ≡ count = omega arith in
    let none : times (0 + count) v ≡ times count v = ap (λ (n : ℕ). times n v) e in
    omega (arith, none)

once_more : (x : ℕ) (xs : List ℕ) (s : ℕ → ℕ) (k : ℕ) → times (times_in (x ∷ xs) k) (s k) ≡ at_most_once x s k + times (times_in xs k) (s k)
once_more x xs s k = ap (λ (n : ℕ). times n (s k)) (sum_by-cons (λ y. cond (eqb y k) 1 0) x xs) ∙ one_more (eqb x k) (times_in xs k) (s k)

-- a sum over a list of numbers is one over all numbers, each so often as it stands there
pub sum_is_total : (s : ℕ → ℕ) (xs : List ℕ) (n : ℕ) → AllByRecursion (λ x. x < n) xs → sum_by s xs ≡ total (λ k. times (times_in xs k) (s k)) n
sum_is_total s [] n below = sym (total_none n)
sum_is_total s (x ∷ xs) n below =
    sum_by-cons s x xs
    ∙ omega (arith, total_of_one s x n below.0, sum_is_total s xs n below.1, total_both (at_most_once x s) (λ k. times (times_in xs k) (s k)) n)
    ∙ sym (total_same (λ k. times (times_in (x ∷ xs) k) (s k)) (λ k. at_most_once x s k + times (times_in xs k) (s k)) n (λ k lt. once_more x xs s k))

-- where each number but 0 stands there once
pub total_but_first : (s count : ℕ → ℕ) (n : ℕ) → 0 < n → count 0 ≡ 0 → ((k : ℕ) → suc k < n → count (suc k) ≡ 1) → total s n ≡ s 0 + total (λ k. times (count k) (s k)) n
total_but_first s count zero some none once = absurd (omega arith)
total_but_first s count (suc zero) some none once = let nothing : times (count 0) (s 0) ≡ 0 = ap (λ (n : ℕ). times n (s 0)) none in omega (arith, nothing)
total_but_first s count (suc (suc n)) some none once =
    let so_far : total s (suc n) ≡ s 0 + total (λ k. times (count k) (s k)) (suc n) = total_but_first s count (suc n) (omega arith) none (λ k lt. once k (omega arith)) in
    let one : times (count (suc n)) (s (suc n)) ≡ s (suc n) + 0 = ap (λ (m : ℕ). times m (s (suc n))) (once n (omega arith)) in
    omega (arith, so_far, one)

-- 0 stands nowhere among greater numbers
pub zero_nowhere : (xs : List ℕ) → AllByRecursion (λ x. 0 < x) xs → times_in xs 0 ≡ 0
zero_nowhere [] above = refl
zero_nowhere (x ∷ xs) above =
    let not_here : one_if (eqb x 0) ≡ 0 = ap one_if (ne_eqb x 0 (λ e. let some : 0 < x = above.0 in omega (arith, e))) in
    omega (arith, sum_by-cons (λ y. cond (eqb y 0) 1 0) x xs, not_here, zero_nowhere xs above.1)
