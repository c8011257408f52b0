-- Masks that are made of two masks, word by word.
use Rattle.std.proofs.Common.{◌&&◌, ◌||◌, not, ap₂, ◌≡◌, ℕ, zero, suc, ◌+◌, ◌*◌, ◌/◌, ◌%◌, ◌^◌, ◌<◌, ◌≤◌, List, [], ◌∷◌, ◌++◌, length, take, get_or, refl, sym, ap, ◌∙◌, arith}
use Rattle.std.specs.Prelude.{◌==◌}
use Rattle.std.specs.Int.Bits.{bit_or, bit_xor, or_zero_l}
use lib.Bits.{bit_and, and_le_l}
use lib.Lanes.{number_l, zip2}
use Rattle.std.proofs.lemmas.List.{take_more, take_all, length-take-le}
use Rattle.std.proofs.lemmas.Simd.{length-zip2}
use Rattle.std.proofs.lemmas.Nat.{and_block, and_mod, and_shr, or_block, or_mod, or_shr, or_lt, xor_block, xor_mod, xor_shr, xor_lt}
use Rattle.std.proofs.Math.Nat.{mul_comm}
use Rattle.vx_masks.specs.Masks.{either, without}
use Rattle.vx_masks.specs.Words.{low_bits, number_of, words_for, IsMask, Small}
use Rattle.vx_masks.proofs.Numbers.{small_tail}

-- ---- pair by pair
zip-append : (op : ℕ → ℕ → ℕ) (xs ys us vs : List ℕ) → length xs ≡ length ys → zip2 op (xs ++ us) (ys ++ vs) ≡ zip2 op xs ys ++ zip2 op us vs
zip-append op [] [] us vs e = refl
zip-append op [] (y ∷ ys) us vs e = absurd (omega arith)
zip-append op (x ∷ xs) [] us vs e = absurd (omega arith)
zip-append op (x ∷ xs) (y ∷ ys) us vs e = ap (λ (l : List ℕ). op x y ∷ l) (zip-append op xs ys us vs (omega arith))

pub zipped_more : (op : ℕ → ℕ → ℕ) (i : ℕ) (xs ys : List ℕ) → i < length xs → length ys ≡ length xs
    → zip2 op (take i xs) (take i ys) ++ op (get_or xs i 0) (get_or ys i 0) ∷ [] ≡ zip2 op (take (i + 1) xs) (take (i + 1) ys)
zipped_more op i xs ys lt len =
    sym (ap₂ (zip2 op) (take_more xs i 0 lt) (take_more ys i 0 (omega arith))
    ∙ zip-append op (take i xs) (take i ys) (get_or xs i 0 ∷ []) (get_or ys i 0 ∷ []) (length-take-le i xs (omega arith) ∙ sym (length-take-le i ys (omega arith))))

pub zipped_all : (op : ℕ → ℕ → ℕ) (i : ℕ) (xs ys : List ℕ) → length ys ≡ length xs → length xs ≤ i → zip2 op (take i xs) (take i ys) ≡ zip2 op xs ys
zipped_all op i xs ys len h = λ j. zip2 op (take_all i xs h j) (take_all i ys (omega arith) j)

-- ---- an operator on bits
pub record IsBitwise (op : ℕ → ℕ → ℕ) : Type 0 where
  pub none : op 0 0 ≡ 0
  pub block : (k a b r s : ℕ) → r < 2 ^ k → s < 2 ^ k → op (a * 2 ^ k + r) (b * 2 ^ k + s) ≡ op a b * 2 ^ k + op r s
  pub small : (k a b : ℕ) → a < 2 ^ k → b < 2 ^ k → op a b < 2 ^ k

number_l-zip : (op : ℕ → ℕ → ℕ) → IsBitwise op → (w : ℕ) (xs ys : List ℕ) → Small w xs → Small w ys → length xs ≡ length ys → number_l (2 ^ w) (zip2 op xs ys) ≡ op (number_l (2 ^ w) xs) (number_l (2 ^ w) ys)
number_l-zip op is w [] [] h l e = sym is.none
number_l-zip op is w [] (y ∷ ys) h l e = absurd (omega arith)
number_l-zip op is w (x ∷ xs) [] h l e = absurd (omega arith)
number_l-zip op is w (x ∷ xs) (y ∷ ys) h l e =
    let m = number_l (2 ^ w) xs in
    let n = number_l (2 ^ w) ys in
    let one : x + 2 ^ w * m ≡ m * 2 ^ w + x = omega (arith, mul_comm (2 ^ w) m) in
    let two : y + 2 ^ w * n ≡ n * 2 ^ w + y = omega (arith, mul_comm (2 ^ w) n) in
    ap (λ (k : ℕ). op x y + 2 ^ w * k) (number_l-zip op is w xs ys (small_tail w x xs h) (small_tail w y ys l) (omega arith))
    ∙ omega (arith, mul_comm (2 ^ w) (op m n))
    ∙ sym (ap₂ op one two ∙ is.block w m n x y (h.small 0) (l.small 0))

pub zipped_mask : (op : ℕ → ℕ → ℕ) → IsBitwise op → (len : ℕ) (xs ys zs : List ℕ) → zs ≡ zip2 op xs ys → Small 64 xs → Small 64 ys → IsMask len xs → IsMask len ys → IsMask len zs
zipped_mask op is len xs ys zs e h l one two =
    let same : length xs ≡ length ys = omega (arith, one.count, two.count) in
    record {
      count = ap length e ∙ length-zip2 op xs ys same ∙ one.count;
      small = omega (arith, ap number_of e, number_l-zip op is 64 xs ys h l same, is.small len (number_of xs) (number_of ys) one.small two.small);
    }

zipped_number : (op : ℕ → ℕ → ℕ) → IsBitwise op → (len : ℕ) (xs ys zs : List ℕ) → zs ≡ zip2 op xs ys → Small 64 xs → Small 64 ys → IsMask len xs → IsMask len ys → number_of zs ≡ op (number_of xs) (number_of ys)
zipped_number op is len xs ys zs e h l one two = ap number_of e ∙ number_l-zip op is 64 xs ys h l (omega (arith, one.count, two.count))

-- the words of two masks of as many rows, pair by pair
pub record Paired (op : ℕ → ℕ → ℕ) (len : ℕ) (xs ys zs : List ℕ) : Type 0 where
  pub pairs : zs ≡ zip2 op xs ys
  pub one : IsMask len xs
  pub two : IsMask len ys

pub paired : (op : ℕ → ℕ → ℕ) (len k i : ℕ) (xs ys zs : List ℕ) → k ≡ len → length xs ≡ words_for len → number_of xs < 2 ^ len → length ys ≡ words_for k → number_of ys < 2 ^ k → length xs ≤ i
    → zs ≡ zip2 op (take i xs) (take i ys) → Paired op len xs ys zs
paired op len k i xs ys zs same many_x small_x many_y small_y past e = record {
  pairs = e ∙ zipped_all op i xs ys (omega arith) past;
  one = record { count = many_x; small = small_x };
  two = record { count = many_y ∙ ap words_for same; small = omega (arith, small_y, ap (λ (n : ℕ). 2 ^ n) same) };
}

-- ---- one of both
pub is_or : IsBitwise bit_or
is_or = record { none = or_zero_l 0; block = or_block; small = or_lt }

bit_either : (x y : ℕ) → x < 2 → y < 2 → (bit_or x y == 1) ≡ ((x == 1) || (y == 1))
bit_either zero zero h l = refl
bit_either zero (suc zero) h l = refl
bit_either (suc zero) zero h l = refl
bit_either (suc zero) (suc zero) h l = refl
bit_either x (suc (suc y)) h l = absurd (omega arith)
bit_either (suc (suc x)) y h l = absurd (omega arith)

low_bits-or : (k a b : ℕ) → low_bits k (bit_or a b) ≡ either (low_bits k a) (low_bits k b)
unfolding low_bits
low_bits-or zero a b = refl
low_bits-or (suc k) a b =
    let low : (bit_or a b % 2 == 1) ≡ ((a % 2 == 1) || (b % 2 == 1)) = ap (λ (x : ℕ). x == 1) (or_mod a b 1) ∙ bit_either (a % 2) (b % 2) (omega arith) (omega arith) in
    let rest = ap (low_bits k) (or_shr a b 1) ∙ low_bits-or k (a / 2) (b / 2) in
    λ i. low i ∷ rest i

pub either_rows : (len : ℕ) (xs ys zs : List ℕ) → zs ≡ zip2 bit_or xs ys → Small 64 xs → Small 64 ys → IsMask len xs → IsMask len ys → low_bits len (number_of zs) ≡ either (low_bits len (number_of xs)) (low_bits len (number_of ys))
either_rows len xs ys zs e h l one two = ap (low_bits len) (zipped_number bit_or is_or len xs ys zs e h l one two) ∙ low_bits-or len (number_of xs) (number_of ys)

-- ---- the first without the second
abbrev pub less : ℕ → ℕ → ℕ
less a b = bit_xor a (bit_and a b)

and_small : (k a b : ℕ) → a < 2 ^ k → bit_and a b < 2 ^ k
and_small k a b h = omega (arith, and_le_l a b)

pub is_less : IsBitwise less
is_less = record {
  none = refl;
  block = λ k a b r s h l. ap (bit_xor (a * 2 ^ k + r)) (and_block k a b r s h l) ∙ xor_block k a (bit_and a b) r (bit_and r s) h (and_small k r s h);
  small = λ k a b h l. xor_lt k a (bit_and a b) h (and_small k a b h);
}

bit_without : (x y : ℕ) → x < 2 → y < 2 → (less x y == 1) ≡ ((x == 1) && not (y == 1))
bit_without zero zero h l = refl
bit_without zero (suc zero) h l = refl
bit_without (suc zero) zero h l = refl
bit_without (suc zero) (suc zero) h l = refl
bit_without x (suc (suc y)) h l = absurd (omega arith)
bit_without (suc (suc x)) y h l = absurd (omega arith)

low_bits-less : (k a b : ℕ) → low_bits k (less a b) ≡ without (low_bits k a) (low_bits k b)
unfolding low_bits
low_bits-less zero a b = refl
low_bits-less (suc k) a b =
    let low : (less a b % 2 == 1) ≡ ((a % 2 == 1) && not (b % 2 == 1)) =
    ap (λ (x : ℕ). x == 1) (xor_mod a (bit_and a b) 1 ∙ ap (bit_xor (a % 2)) (and_mod a b 1)) ∙ bit_without (a % 2) (b % 2) (omega arith) (omega arith) in
    let rest = ap (low_bits k) (xor_shr a (bit_and a b) 1 ∙ ap (bit_xor (a / 2)) (and_shr a b 1)) ∙ low_bits-less k (a / 2) (b / 2) in
    λ i. low i ∷ rest i

pub without_rows : (len : ℕ) (xs ys zs : List ℕ) → zs ≡ zip2 less xs ys → Small 64 xs → Small 64 ys → IsMask len xs → IsMask len ys → low_bits len (number_of zs) ≡ without (low_bits len (number_of xs)) (low_bits len (number_of ys))
without_rows len xs ys zs e h l one two = ap (low_bits len) (zipped_number less is_less len xs ys zs e h l one two) ∙ low_bits-less len (number_of xs) (number_of ys)
