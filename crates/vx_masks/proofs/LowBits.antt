-- The lowest bits of a number.
use Rattle.std.proofs.Common.{ap₂, inl, inr, ◌≡◌, ℕ, zero, suc, ◌+◌, ◌-◌, ◌*◌, ◌/◌, ◌%◌, ◌^◌, ◌<◌, ◌≤◌, Bool, true, false, cond, List, [], ◌∷◌, ◌++◌, length, take, drop, get_or, replicate, refl, sym, ap, subst, ◌∙◌, arith, zero-add}
use Rattle.std.specs.Prelude.{◌==◌, ◌&&◌}
use Rattle.std.specs.Int.{bit_at}
use lib.Bits.{bit_and}
use lib.Count.{ones, ones_in, ones_step, count_trailing_zeros, count_leading_zeros, under}
use lib.Lanes.{mask_l}
use Rattle.std.proofs.lemmas.List.{length-take-le, take_at, take_more, drop_at}
use Rattle.std.proofs.lemmas.List.Sums.{sum_by-cons}
use Rattle.std.proofs.lemmas.Bool.{cases_eq}
use Rattle.std.proofs.lemmas.Nat.{pow_pos, shr-shr, and_mod, and_shr, and_mask, and_block, and_or_self, mod-pow-add, leading_top, shr_split, shl-shr, div_below, le-div}
use Rattle.std.proofs.lemmas.Nat.Bits.{bit_at_lowest, bit_at-suc}
use Rattle.std.proofs.Math.Nat.{mul_assoc, mul_comm, mod_self}
use Rattle.vx_masks.specs.Masks.{both, true_count}
use Rattle.vx_masks.specs.Words.{low_bits}

-- ---- half a number
pub half_power : (k m : ℕ) → 2 ^ suc k * m ≡ 2 * (2 ^ k * m)
half_power k m = ap (λ (p : ℕ). p * m) (omega arith) ∙ mul_assoc 2 (2 ^ k) m

half_shift : (n j : ℕ) → n / 2 ^ suc j ≡ n / 2 / 2 ^ j
half_shift n j = let e : suc j ≡ 1 + j = omega arith in ap (λ (i : ℕ). n / 2 ^ i) e ∙ sym (shr-shr n 1 j)

-- ---- how many there are
pub length-low_bits : (k n : ℕ) → length (low_bits k n) ≡ k
unfolding low_bits
length-low_bits zero n = refl
length-low_bits (suc k) n = omega (arith, length-low_bits k (n / 2))

pub low_bits-nothing : (k : ℕ) → low_bits k 0 ≡ replicate k false
unfolding low_bits
low_bits-nothing zero = refl
low_bits-nothing (suc k) = ap (λ (bs : List Bool). false ∷ bs) (low_bits-nothing k)

-- ---- a cut
pub low_bits-add : (j k n : ℕ) → low_bits (j + k) n ≡ low_bits j n ++ low_bits k (n / 2 ^ j)
unfolding low_bits
low_bits-add zero k n = let e : n ≡ n / 1 = omega arith in ap (λ (i : ℕ). low_bits i n) (zero-add k) ∙ ap (low_bits k) e
low_bits-add (suc j) k n =
    let e : suc j + k ≡ suc (j + k) = omega arith in
    ap (λ (i : ℕ). low_bits i n) e ∙ ap (λ (bs : List Bool). (n % 2 == 1) ∷ bs) (low_bits-add j k (n / 2) ∙ ap (λ (m : ℕ). low_bits j (n / 2) ++ low_bits k m) (sym (half_shift n j)))

pub take-low_bits : (j k n : ℕ) → take j (low_bits (j + k) n) ≡ low_bits j n
take-low_bits j k n = ap (take j) (low_bits-add j k n) ∙ take_at (low_bits j n) (low_bits k (n / 2 ^ j)) j (length-low_bits j n)

pub drop-low_bits : (j k n : ℕ) → drop j (low_bits (j + k) n) ≡ low_bits k (n / 2 ^ j)
drop-low_bits j k n = ap (drop j) (low_bits-add j k n) ∙ drop_at (low_bits j n) (low_bits k (n / 2 ^ j)) j (length-low_bits j n)

-- what stands above does not count
pub low_bits-above : (k n m : ℕ) → low_bits k (n + 2 ^ k * m) ≡ low_bits k n
unfolding low_bits
low_bits-above zero n m = refl
low_bits-above (suc k) n m =
    let e : n + 2 ^ suc k * m ≡ n + 2 * (2 ^ k * m) = ap (λ (x : ℕ). n + x) (half_power k m) in
    let low : (n + 2 * (2 ^ k * m)) % 2 ≡ n % 2 = omega arith in
    let rest : (n + 2 * (2 ^ k * m)) / 2 ≡ n / 2 + 2 ^ k * m = omega arith in
    ap (low_bits (suc k)) e ∙ (λ i. (low i == 1) ∷ (ap (low_bits k) rest ∙ low_bits-above k (n / 2) m) i)

-- what is below a power has its lowest bits alone
pub low_bits-mod : (k n : ℕ) → low_bits k (n % 2 ^ k) ≡ low_bits k n
low_bits-mod k n =
    let whole : n ≡ n % 2 ^ k + 2 ^ k * (n / 2 ^ k) = omega (arith, shr_split n k, mul_comm (2 ^ k) (n / 2 ^ k)) in
    sym (ap (low_bits k) whole ∙ low_bits-above k (n % 2 ^ k) (n / 2 ^ k))

pub low_bits-ones : (k : ℕ) → low_bits k (2 ^ k - 1) ≡ replicate k true
unfolding low_bits
low_bits-ones zero = refl
low_bits-ones (suc k) =
    let low : (2 ^ suc k - 1) % 2 ≡ 1 = omega (arith, pow_pos k) in
    let rest : (2 ^ suc k - 1) / 2 ≡ 2 ^ k - 1 = omega (arith, pow_pos k) in
    λ i. (low i == 1) ∷ (ap (low_bits k) rest ∙ low_bits-ones k) i

-- ---- one bit
pub get_or-low_bits : (k n i : ℕ) → i < k → get_or (low_bits k n) i false ≡ (bit_at n i == 1)
unfolding low_bits
get_or-low_bits zero n i h = absurd (omega arith)
get_or-low_bits (suc k) n zero h = ap (λ (b : ℕ). b == 1) (sym (bit_at_lowest n))
get_or-low_bits (suc k) n (suc i) h = get_or-low_bits k (n / 2) i (omega arith) ∙ ap (λ (b : ℕ). b == 1) (sym (bit_at-suc n i))

-- ---- two numbers
bit_both : (x y : ℕ) → x < 2 → y < 2 → (bit_and x y == 1) ≡ ((x == 1) && (y == 1))
bit_both zero zero h l = refl
bit_both zero (suc zero) h l = refl
bit_both (suc zero) zero h l = refl
bit_both (suc zero) (suc zero) h l = refl
bit_both x (suc (suc y)) h l = absurd (omega arith)
bit_both (suc (suc x)) y h l = absurd (omega arith)

pub low_bits-and : (k a b : ℕ) → low_bits k (bit_and a b) ≡ both (low_bits k a) (low_bits k b)
unfolding low_bits
low_bits-and zero a b = refl
low_bits-and (suc k) a b =
    let low : (bit_and a b % 2 == 1) ≡ ((a % 2 == 1) && (b % 2 == 1)) = ap (λ (x : ℕ). x == 1) (and_mod a b 1) ∙ bit_both (a % 2) (b % 2) (omega arith) (omega arith) in
    let rest = ap (low_bits k) (and_shr a b 1) ∙ low_bits-and k (a / 2) (b / 2) in
    λ i. low i ∷ rest i

-- ---- how many are true
bit_count : (x : ℕ) → x < 2 → cond (x == 1) 1 0 ≡ x
bit_count zero h = refl
bit_count (suc zero) h = refl
bit_count (suc (suc x)) h = absurd (omega arith)

pub true_count-low_bits : (k n : ℕ) → n < 2 ^ k → true_count (low_bits k n) ≡ ones n
unfolding low_bits ones ones_in
true_count-low_bits zero n h = let e : 0 ≡ n = omega arith in ap ones e
true_count-low_bits (suc k) n h =
    sum_by-cons (λ (b : Bool). cond b 1 0) (n % 2 == 1) (low_bits k (n / 2)) ∙ omega (arith, bit_count (n % 2) (omega arith), true_count-low_bits k (n / 2) (omega arith), ones_step n)

-- ---- the number of truth values
pub low_bits-mask : (bits : List Bool) → low_bits (length bits) (mask_l bits) ≡ bits
unfolding low_bits
low_bits-mask [] = refl
low_bits-mask (true ∷ bits) =
    let rest : (1 + 2 * mask_l bits) / 2 ≡ mask_l bits = omega arith in
    let low : (1 + 2 * mask_l bits) % 2 ≡ 1 = omega arith in
    λ i. (low i == 1) ∷ (ap (low_bits (length bits)) rest ∙ low_bits-mask bits) i
low_bits-mask (false ∷ bits) =
    let rest : (0 + 2 * mask_l bits) / 2 ≡ mask_l bits = omega arith in
    let low : (0 + 2 * mask_l bits) % 2 ≡ 0 = omega arith in
    λ i. (low i == 1) ∷ (ap (low_bits (length bits)) rest ∙ low_bits-mask bits) i

twice_mod : (n p : ℕ) → n % 2 ^ suc p ≡ n % 2 + 2 * (n / 2 % 2 ^ p)
twice_mod n p =
    let e : suc p ≡ p + 1 = omega arith in
    ap (λ (i : ℕ). n % 2 ^ i) e ∙ mod-pow-add n p 1 ∙ omega arith

pub mask_l-low_bits : (k n : ℕ) → mask_l (low_bits k n) ≡ n % 2 ^ k
unfolding low_bits
mask_l-low_bits zero n = omega arith
mask_l-low_bits (suc k) n = omega (arith, bit_count (n % 2) (omega arith), mask_l-low_bits k (n / 2), twice_mod n k)

pub mask_l-append : (xs ys : List Bool) → mask_l (xs ++ ys) ≡ mask_l xs + 2 ^ length xs * mask_l ys
mask_l-append [] ys = omega arith
mask_l-append (x ∷ xs) ys = omega (arith, mask_l-append xs ys, half_power (length xs) (mask_l ys))

quotient_one : (n d : ℕ) → d ≤ n → n < 2 * d → n / d ≡ 1
quotient_one n d low high =
    omega (arith, div_below n d 2 (omega arith) high, le-div 1 n d (omega arith) (omega arith))

no_more : (n : ℕ) → n + 2 * 0 ≡ n
no_more n = omega arith

pub mask_l_more : (bits : List Bool) (i : ℕ) → i < length bits → mask_l (take (i + 1) bits) ≡ mask_l (take i bits) + cond (get_or bits i false) 1 0 * 2 ^ i
mask_l_more bits i h =
    let last = get_or bits i false in
    ap mask_l (take_more bits i false h) ∙ mask_l-append (take i bits) (last ∷ [])
    ∙ omega (arith, ap (λ (k : ℕ). 2 ^ k * (cond last 1 0 + 2 * 0)) (length-take-le i bits (omega arith)), mul_comm (2 ^ i) (cond last 1 0 + 2 * 0), ap (λ (x : ℕ). x * 2 ^ i) (no_more (cond last 1 0)))

-- ---- the lowest and the highest bit that is set
-- p zeros, a one, and so many bits above
pub record LowestOne (k n p above : ℕ) : Type 0 where
  pub count : p + suc above ≡ k
  pub split : low_bits k n ≡ replicate p false ++ true ∷ low_bits above (n / 2 ^ suc p)
  pub low : n % 2 ^ suc p ≡ 2 ^ p

lowest_here : (k n : ℕ) → n % 2 ≡ 1 → LowestOne (suc k) n 0 k
unfolding low_bits
lowest_here k n e = record {
  count = omega arith;
  split = λ i. (e i == 1) ∷ low_bits k (n / 2);
  low = e;
}

lowest_later : (k n p above : ℕ) → n % 2 ≡ 0 → LowestOne k (n / 2) p above → LowestOne (suc k) n (suc p) above
unfolding low_bits
lowest_later k n p above e h = record {
  count = omega (arith, h.count);
  split = λ i. (e i == 1) ∷ (h.split ∙ ap (λ (m : ℕ). replicate p false ++ true ∷ low_bits above m) (sym (half_shift n (suc p)))) i;
  low = omega (arith, twice_mod n (suc p), h.low, e);
}

abbrev Lowest : ℕ → ℕ → ℕ → Type 0
Lowest k n p = (above : ℕ) × LowestOne k n p above

pub lowest_one : (k n : ℕ) → 0 < n → n < 2 ^ k → (above : ℕ) × LowestOne k n (count_trailing_zeros k n) above
unfolding count_trailing_zeros
lowest_one zero n p h = absurd (omega arith)
lowest_one (suc k) n p h =
    elim (cases_eq (n % 2) 0) [
      | inl even ↦
          let later = lowest_one k (n / 2) (omega arith) (omega arith) in
          subst (λ (b : ℕ). Lowest (suc k) n (under b (count_trailing_zeros k (n / 2)))) (sym even) (later.0, lowest_later k n (count_trailing_zeros k (n / 2)) later.0 even later.1)
      | inr other ↦ let odd : n % 2 ≡ 1 = omega arith in subst (λ (b : ℕ). Lowest (suc k) n (under b (count_trailing_zeros k (n / 2)))) (sym odd) (k, lowest_here k n odd)
    ]

-- the highest: so many bits, a one, and zeros
pub record HighestOne (k n j : ℕ) : Type 0 where
  pub count : count_leading_zeros k n + suc j ≡ k
  pub top : n / 2 ^ j ≡ 1

pub highest_one : (k n : ℕ) → 0 < n → n < 2 ^ k → (j : ℕ) × HighestOne k n j
highest_one k n p h =
    let at = leading_top k n p h in
    (at.0, record { count = at.1; top = quotient_one n (2 ^ at.0) at.2 (omega (arith, at.3)) })

-- ---- the lowest one taken away
pub cleared_low : (n p : ℕ) → n % 2 ^ suc p ≡ 2 ^ p → bit_and n (n - 1) ≡ n / 2 ^ suc p * 2 ^ suc p
cleared_low n p low =
    let a = n / 2 ^ suc p in
    let one : n ≡ a * 2 ^ suc p + 2 ^ p = sym (shr_split n (suc p)) ∙ ap (λ (x : ℕ). a * 2 ^ suc p + x) low in
    let two : n - 1 ≡ a * 2 ^ suc p + (2 ^ p - 1) = omega (arith, pow_pos p) in
    let none : bit_and (2 ^ p) (2 ^ p - 1) ≡ 0 = and_mask (2 ^ p) p ∙ mod_self (2 ^ p) in
    ap₂ bit_and one two ∙ and_block (suc p) a a (2 ^ p) (2 ^ p - 1) (omega (arith, pow_pos p)) (omega (arith, pow_pos p))
    ∙ (λ i. and_or_self a 0 i * 2 ^ suc p + none i) ∙ omega arith

pub cleared_is : (k n p above : ℕ) → LowestOne k n p above → bit_and n (n - 1) ≡ n / 2 ^ suc p * 2 ^ suc p
cleared_is k n p above h = cleared_low n p h.low

nothing_more : (n : ℕ) → n ≡ 0 + n
nothing_more n = omega arith

pub cleared_bits : (k n p above : ℕ) → LowestOne k n p above → low_bits k (bit_and n (n - 1)) ≡ replicate (suc p) false ++ low_bits above (n / 2 ^ suc p)
cleared_bits k n p above h =
    let a = n / 2 ^ suc p in
    let e : k ≡ suc p + above = omega (arith, h.count) in
    let low : low_bits (suc p) (a * 2 ^ suc p) ≡ replicate (suc p) false = ap (low_bits (suc p)) (mul_comm a (2 ^ suc p)) ∙ (λ i. low_bits (suc p) (nothing_more (2 ^ suc p * a) i)) ∙ low_bits-above (suc p) 0 a ∙ low_bits-nothing (suc p) in
    ap (low_bits k) (cleared_is k n p above h) ∙ ap (λ (j : ℕ). low_bits j (a * 2 ^ suc p)) e ∙ low_bits-add (suc p) above (a * 2 ^ suc p)
    ∙ (λ i. low i ++ low_bits above (shl-shr a (suc p) i))
