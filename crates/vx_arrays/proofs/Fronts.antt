-- The numbers that the first bytes of texts spell, read one by one and many at a time.
use Rattle.std.proofs.Common.{bit_and, eqb, Bool, true, ◌&&◌, T, min, inl, inr, ◌≡◌, ℕ, zero, suc, ◌+◌, ◌-◌, ◌*◌, ◌/◌, ◌^◌, ◌<◌, ◌≤◌, List, [], ◌∷◌, length, get_or, take, refl, sym, ap, subst, ◌∙◌, arith}
use Rattle.std.specs.Int.{w128, from_be_bytes}
use Rattle.std.proofs.Math.Nat.{div-eq_of_lt, mul-add-div_right, mul-le-mul_right, suc-mul, zero-mul, mul_assoc, add-mul}
use Rattle.std.proofs.lemmas.Nat.{pow-add, pow_pos}
use Rattle.std.proofs.lemmas.Nat.Bits.{and_high_mask}
use Rattle.std.proofs.lemmas.Bool.{cases_lt}
use lib.Dec.{eqb→eq}
use lib.Ieee.Fits.{and_l, and_r}
use lib.Pow.{pow_mono}
use Rattle.vx_arrays.specs.declared.first_bytes.TheConstants.{KEPT}
use Rattle.vx_arrays.specs.Fronts.{spelled, front_number}

-- ---- a byte more
byte_more : (count : ℕ) → 2 ^ (8 * suc count) ≡ 2 ^ (8 * count) * 256
byte_more count =
    let more : 8 * suc count ≡ 8 * count + 8 = omega arith in
    ap (λ (k : ℕ). 2 ^ k) more ∙ pow-add 2 (8 * count) 8

digits_below : (x s p : ℕ) → x < 256 → s < p → x * p + s < p * 256
digits_below x s p h l =
    let under : suc x ≤ 256 = omega arith in
    let most : suc x * p ≤ 256 * p = mul-le-mul_right p under in
    omega (arith, most, suc-mul x p)

pub spelled_below : (count : ℕ) (xs : List ℕ) → ((k : ℕ) → get_or xs k 0 < 256) → spelled count xs < 2 ^ (8 * count)
spelled_below zero xs h = omega arith
spelled_below (suc count) [] h = pow_pos (8 * suc count)
spelled_below (suc count) (x ∷ xs) h =
    omega (arith, byte_more count, digits_below x (spelled count xs) (2 ^ (8 * count)) (h 0) (spelled_below count xs (λ k. h (suc k))))

-- ---- one by one
shifted_sum : (x p s t : ℕ) → x * (p * 256) + (s * 256 + t) ≡ (x * p + s) * 256 + t
shifted_sum x p s t = omega (arith, mul_assoc x p 256, add-mul (x * p) s 256)

pub spelled_more : (count : ℕ) (xs : List ℕ) → spelled (suc count) xs ≡ spelled count xs * 256 + get_or xs count 0
spelled_more zero [] = refl
spelled_more zero (x ∷ xs) = omega arith
spelled_more (suc count) [] = refl
spelled_more (suc count) (x ∷ xs) =
    let high = ap (λ (p : ℕ). x * p + spelled (suc count) xs) (byte_more count) in
    let low = ap (λ (s : ℕ). x * (2 ^ (8 * count) * 256) + s) (spelled_more count xs) in
    high ∙ low ∙ shifted_sum x (2 ^ (8 * count)) (spelled count xs) (get_or xs count 0)

pub spelled_next : (count : ℕ) (xs : List ℕ) (number byte : ℕ) → number ≡ spelled count xs → byte ≡ get_or xs count 0 → number * 256 + byte ≡ spelled (count + 1) xs
spelled_next count xs number byte e d =
    let next : suc count ≡ count + 1 = omega arith in
    ap (λ (n : ℕ). n * 256 + byte) e ∙ ap (λ (n : ℕ). spelled count xs * 256 + n) d ∙ sym (spelled_more count xs) ∙ ap (λ (k : ℕ). spelled k xs) next

pub spelled_fits : (count : ℕ) (xs : List ℕ) → ((k : ℕ) → get_or xs k 0 < 256) → count < 16 → spelled count xs * 256 + get_or xs count 0 < 2 ^ 128
spelled_fits count xs h l =
    let few : 8 * suc count ≤ 128 = omega arith in
    omega (arith, spelled_more count xs, spelled_below (suc count) xs h, pow_mono few)

pub front_spelled : (xs : List ℕ) → spelled 16 xs ≡ front_number xs
unfolding front_number
front_spelled xs = refl

-- ---- many at a time
abbrev bytes_from : List ℕ → ℕ → ℕ → List ℕ
bytes_from xs k zero = []
bytes_from xs k (suc n) = get_or xs k 0 ∷ bytes_from xs (suc k) n

later : (n k : ℕ) (x : ℕ) (xs : List ℕ) → bytes_from (x ∷ xs) (suc k) n ≡ bytes_from xs k n
later zero k x xs = refl
later (suc n) k x xs = ap (λ (bs : List ℕ). get_or xs k 0 ∷ bs) (later n (suc k) x xs)

first_spelled : (count : ℕ) (xs : List ℕ) → count ≤ length xs → spelled count (bytes_from xs 0 count) ≡ spelled count xs
first_spelled zero xs le = refl
first_spelled (suc count) [] le = absurd (omega arith)
first_spelled (suc count) (x ∷ xs) le =
    ap (λ (s : ℕ). x * 2 ^ (8 * count) + s) (ap (spelled count) (later count 0 x xs) ∙ first_spelled count xs (omega arith))

pub long_front : (xs : List ℕ) → 16 ≤ length xs → from_be_bytes w128 (bytes_from xs 0 16) ≡ front_number xs
unfolding front_number
long_front xs le =
    let one : from_be_bytes w128 (bytes_from xs 0 16) ≡ spelled 16 (bytes_from xs 0 16) = omega arith in
    one ∙ first_spelled 16 xs le

-- ---- without what lies behind
cut_digits : (x q d s : ℕ) → zero < d → (x * (q * d) + s) / d * d ≡ x * (q * d) + s / d * d
cut_digits x q d s pos =
    let left : x * (q * d) ≡ x * q * d = sym (mul_assoc x q d) in
    ap (λ (n : ℕ). (n + s) / d * d) left ∙ ap (λ (n : ℕ). n * d) (mul-add-div_right pos (x * q) s) ∙ add-mul (x * q) (s / d) d ∙ ap (λ (n : ℕ). n + s / d * d) (sym left)

spelled_none : (count : ℕ) → spelled count [] ≡ 0
spelled_none zero = refl
spelled_none (suc count) = refl

-- so many are kept, and the rest of them is cut off
cut_at : (kept rest count : ℕ) (xs : List ℕ) → count ≡ kept + rest → count ≤ length xs → ((k : ℕ) → get_or xs k 0 < 256) → spelled count xs / 2 ^ (8 * rest) * 2 ^ (8 * rest) ≡ spelled count (take kept xs)
cut_at zero rest count xs e le h =
    let all : count ≡ rest = omega arith in
    let below : spelled count xs < 2 ^ (8 * rest) = subst (λ (k : ℕ). spelled count xs < 2 ^ (8 * k)) all (spelled_below count xs h) in
    ap (λ (n : ℕ). n * 2 ^ (8 * rest)) (div-eq_of_lt below) ∙ zero-mul (2 ^ (8 * rest)) ∙ sym (spelled_none count)
cut_at (suc kept) rest zero xs e le h = absurd (omega arith)
cut_at (suc kept) rest (suc count) [] e le h = absurd (omega arith)
cut_at (suc kept) rest (suc count) (x ∷ xs) e le h =
    let d = 2 ^ (8 * rest) in
    let q = 2 ^ (8 * kept) in
    let s = spelled count xs in
    let apart : 8 * count ≡ 8 * kept + 8 * rest = omega arith in
    let whole : 2 ^ (8 * count) ≡ q * d = ap (λ (k : ℕ). 2 ^ k) apart ∙ pow-add 2 (8 * kept) (8 * rest) in
    ap (λ (p : ℕ). (x * p + s) / d * d) whole
    ∙ cut_digits x q d s (pow_pos (8 * rest))
    ∙ ap (λ (p : ℕ). x * p + s / d * d) (sym whole)
    ∙ ap (λ (n : ℕ). x * 2 ^ (8 * count) + n) (cut_at kept rest count xs (omega arith) (omega arith) (λ k. h (suc k)))

-- what lies behind so many isn't read
spelled_first : (count len : ℕ) (xs : List ℕ) → count ≤ len → spelled count (take len xs) ≡ spelled count xs
spelled_first zero len xs le = refl
spelled_first (suc count) zero xs le = absurd (omega arith)
spelled_first (suc count) (suc len) [] le = refl
spelled_first (suc count) (suc len) (x ∷ xs) le = ap (λ (n : ℕ). x * 2 ^ (8 * count) + n) (spelled_first count len xs (omega arith))

whole_kept : (n : ℕ) → n / 2 ^ (8 * 0) * 2 ^ (8 * 0) ≡ n
whole_kept n = omega arith

pub front_cut : (len : ℕ) (xs : List ℕ) → 16 ≤ length xs → ((k : ℕ) → get_or xs k 0 < 256) → front_number xs / 2 ^ (8 * (16 - len)) * 2 ^ (8 * (16 - len)) ≡ front_number (take len xs)
unfolding front_number
front_cut len xs le h = elim (cases_lt len 16) [
  | inl few ↦ cut_at len (16 - len) 16 xs (omega arith) le h
  | inr many ↦
      let none : 16 - len ≡ 0 = omega arith in
      ap (λ (k : ℕ). spelled 16 xs / 2 ^ (8 * k) * 2 ^ (8 * k)) none ∙ whole_kept (spelled 16 xs) ∙ sym (spelled_first 16 len xs many)
]

-- ---- ones where bytes are kept
abbrev are_kept_from : ℕ → List ℕ → Bool
are_kept_from place [] = true
are_kept_from place (x ∷ xs) = eqb x (2 ^ 128 - 2 ^ (8 * (16 - place))) && are_kept_from (suc place) xs

kept_at : (xs : List ℕ) (k i j : ℕ) → T (are_kept_from k xs) → i < length xs → j ≡ k + i → get_or xs i 0 ≡ 2 ^ 128 - 2 ^ (8 * (16 - j))
kept_at [] k i j t h e = absurd (omega arith)
kept_at (x ∷ xs) k zero j t h e = let s : k ≡ j = omega arith in eqb→eq _ _ (and_l _ _ t) ∙ ap (λ (y : ℕ). 2 ^ 128 - 2 ^ (8 * (16 - y))) s
kept_at (x ∷ xs) k (suc i) j t h e = kept_at xs (suc k) i j (and_r (eqb x (2 ^ 128 - 2 ^ (8 * (16 - k)))) _ t) (omega arith) (omega arith)

pub kept_bytes : (front len place : ℕ) → front < 2 ^ 128 → place ≡ min len 16 → bit_and front (get_or KEPT place 0) ≡ front / 2 ^ (8 * (16 - len)) * 2 ^ (8 * (16 - len))
kept_bytes front len place fits e =
    let same : 16 - place ≡ 16 - len = omega arith in
    let few : 8 * (16 - len) ≤ 128 = omega arith in
    ap (bit_and front) (kept_at KEPT 0 place place tt (omega arith) (omega arith) ∙ ap (λ (k : ℕ). 2 ^ 128 - 2 ^ (8 * k)) same) ∙ and_high_mask 128 (8 * (16 - len)) few front fits
