-- Numbers below a bound of which none stands twice are at most as many as the bound.
use Rattle.std.proofs.Common.{◌≡◌, ◌≢◌, ℕ, zero, suc, ◌<◌, ◌≤◌, List, [], ◌∷◌, length, refl, sym, arith}
use Rattle.std.specs.Prelude.{slice_index_or}
use Rattle.std.specs.List.{All}
use Rattle.std.proofs.lemmas.List.Elements.{All-head, All-tail}
use Rattle.vx_claims.proofs.Weights.{without, without_other, above_it}
use Rattle.vx_claims.specs.Apart.{sum_below}
use Rattle.vx_drive.specs.Fetched.{AreDistinctNumbers}

apart_behind : (number : ℕ) (numbers : List ℕ) → AreDistinctNumbers (number ∷ numbers) → AreDistinctNumbers numbers
apart_behind number numbers apart i j d lt within = apart (suc i) (suc j) d (omega (arith, lt)) (omega (arith, within))

differ_from : (number : ℕ) (numbers : List ℕ) → AreDistinctNumbers (number ∷ numbers) → All (λ other. other ≢ number) numbers
differ_from number numbers apart k d lt same = apart 0 (suc k) d (omega arith) (omega (arith, lt)) (sym same)

-- where each of the numbers weighs something
few_weights : (numbers : List ℕ) (n : ℕ) (weight : ℕ → ℕ) → AreDistinctNumbers numbers → All (λ number. number < n) numbers → All (λ number. 1 ≤ weight number) numbers → length numbers ≤ sum_below weight n
few_weights [] n weight apart below heavy = omega arith
few_weights (number ∷ numbers) n weight apart below heavy =
    let differ = differ_from number numbers apart in
    let more = All-tail (λ other. 1 ≤ weight other) number numbers heavy in
    let rest = few_weights numbers n (without weight number) (apart_behind number numbers apart) (All-tail (λ other. other < n) number numbers below)
    (λ k d lt. let same = without_other weight number (slice_index_or numbers k d) (differ k d lt) in let p = more k d lt in omega (arith, same, p)) in
    let here = All-head (λ other. 1 ≤ weight other) number numbers heavy in
    let whole = above_it weight number n (All-head (λ other. other < n) number numbers below) in
    omega (arith, here, whole, rest)

ones_below : (n : ℕ) → sum_below (λ number. 1) n ≡ n
ones_below zero = refl
ones_below (suc n) = let rest = ones_below n in omega (arith, rest)

pub few_apart : (numbers : List ℕ) (n : ℕ) → AreDistinctNumbers numbers → All (λ number. number < n) numbers → length numbers ≤ n
few_apart numbers n apart below =
    let sum = few_weights numbers n (λ number. 1) apart below (λ k d lt. omega arith) in
    let all = ones_below n in
    omega (arith, sum, all)
