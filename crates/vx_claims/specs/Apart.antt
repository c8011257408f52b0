-- Lists of numbers, one for each worker, that are apart for a bound, or whole for it; and what their numbers weigh.
use Rattle.std.specs.Prelude.{◌≡◌, ℕ, zero, suc, ◌+◌, ◌<◌, ◌≤◌, ◌==◌, nat_lt, if◌then◌else◌, List}
use Rattle.std.specs.List.{All, count_by, sum_by}

-- ---- how often

-- how often a number stands in a list
abbrev pub times : ℕ → List ℕ → ℕ
times x numbers = count_by (λ n. n == x) numbers

-- how often it stands in all lists
abbrev pub times_over : ℕ → List (List ℕ) → ℕ
times_over x lists = sum_by (times x) lists

-- once where the number is below n, else never
abbrev pub once_below : ℕ → ℕ → ℕ
once_below n x = if nat_lt x n then 1 else 0

-- ---- apart and whole

-- Each number is below n, and none stands twice over all lists.
pub record AreApart (n : ℕ) (lists : List (List ℕ)) : Type 0 where
  pub below : All (All (λ x. x < n)) lists
  pub once : (x : ℕ) → times_over x lists ≤ 1

-- Besides, each number below n stands in one of them.
pub record AreWhole (n : ℕ) (lists : List (List ℕ)) : Type 0 where
  pub apart : AreApart n lists
  pub each : (x : ℕ) → x < n → times_over x lists ≡ 1

-- ---- weights

-- the weights of all numbers below n
abbrev pub sum_below : (ℕ → ℕ) → ℕ → ℕ
sum_below weight zero = 0
sum_below weight (suc n) = weight n + sum_below weight n

-- the weights of all numbers in the lists
abbrev pub weight_of : (ℕ → ℕ) → List (List ℕ) → ℕ
weight_of weight lists = sum_by (sum_by weight) lists

-- the numbers of lists that are apart weigh at most as much as all numbers below the bound
abbrev pub ApartWeighAtMost : Type 0
ApartWeighAtMost = (weight : ℕ → ℕ) (n : ℕ) (lists : List (List ℕ)) → AreApart n lists → weight_of weight lists ≤ sum_below weight n
