-- A mask that is built word by word.
use Rattle.std.proofs.Common.{cond, zero-mul, ◌≡◌, ℕ, zero, suc, ◌+◌, ◌-◌, ◌*◌, ◌/◌, ◌%◌, ◌^◌, ◌<◌, ◌≤◌, min, Bool, true, false, List, [], ◌∷◌, ◌++◌, length, take, drop, get_or, replicate, slice_range, Some, refl, sym, ap, ap₂, subst, ◌∙◌, arith}
use Rattle.std.specs.Prelude.{slice_get, ◌==◌}
use Rattle.std.specs.Int.{bit_at}
use lib.Bits.{bit_and, and_le_l}
use lib.Lanes.{mask_l}
use Rattle.std.proofs.Math.Seq.{take-add}
use Rattle.std.proofs.Math.Nat.{mul_comm}
use Rattle.std.proofs.lemmas.List.{length-append, length-take-le, length-drop, length-replicate, take_all, take_min, take-take, drop-take, drop-drop, take-replicate, drop-replicate}
use Rattle.std.proofs.lemmas.Simd.{mask_l-lt}
use Rattle.std.proofs.lemmas.Nat.{pow_pos, pow-add, mul-add-lt, mod_below, one_shl}
use lib.Pow.{pow_mono}
use Rattle.std.proofs.lemmas.List.Sums.{count_by-le-length}
use Rattle.std.proofs.lemmas.Nat.Bits.{bit_at_above}
use Rattle.std.proofs.lemmas.Option.{slice_get-get_or}
use Rattle.vx_masks.specs.Masks.{true_count, both}
use Rattle.vx_masks.specs.Words.{low_bits, number_of, bits_of, words_for, IsMask, Small}
use Rattle.vx_masks.proofs.LowBits.{mask_l_more, low_bits-and, low_bits-mask, low_bits-ones, low_bits-nothing, take-low_bits, drop-low_bits, low_bits-add, low_bits-above, low_bits-mod, length-low_bits, true_count-low_bits, get_or-low_bits}
use Rattle.vx_masks.proofs.Numbers.{rest_of, number_l-append, ones_of_number, bit_of_word}

-- ---- a mask's words
pub row_is : (k n row : ℕ) → row < k → slice_get (low_bits k n) row ≡ Some (bit_at n row == 1)
row_is k n row h = slice_get-get_or (low_bits k n) row false (omega (arith, length-low_bits k n)) ∙ ap (λ (b : Bool). Some b) (get_or-low_bits k n row h)

pub bit_of_row : (row : ℕ) (ws : List ℕ) → Small 64 ws → bit_at (number_of ws) row ≡ bit_at (get_or ws (row / 64) 0) (row % 64)
bit_of_row row ws small =
    let t = 63 - row % 64 in
    let place : row ≡ 64 * (row / 64) + row % 64 = omega arith in
    ap (bit_at (number_of ws)) place ∙ bit_of_word 64 (row % 64) t (row / 64) ws small (omega arith)

pub row_of_word : (len row : ℕ) (ws : List ℕ) → Small 64 ws → row < len → slice_get (low_bits len (number_of ws)) row ≡ Some (bit_at (get_or ws (row / 64) 0) (row % 64) == 1)
row_of_word len row ws small h = row_is len (number_of ws) row h ∙ ap (λ (b : ℕ). Some (b == 1)) (bit_of_row row ws small)

pub counted : (len : ℕ) (ws : List ℕ) → Small 64 ws → IsMask len ws → true_count (bits_of ws) ≡ true_count (low_bits len (number_of ws))
counted len ws small h =
    ones_of_number 64 ws small ∙ sym (true_count-low_bits len (number_of ws) h.small)

pub len_is : (len n : ℕ) (bits : List Bool) → low_bits len n ≡ bits → len ≡ length bits
len_is len n bits e = sym (length-low_bits len n) ∙ ap length e

pub past_rows : (len row : ℕ) (ws : List ℕ) → Small 64 ws → IsMask len ws → len ≤ row → bit_at (get_or ws (row / 64) 0) (row % 64) ≡ 0
past_rows len row ws small h past = sym (bit_of_row row ws small) ∙ bit_at_above (number_of ws) len row h.small past

pub count_fits : (len : ℕ) (ws : List ℕ) → Small 64 ws → IsMask len ws → len < 2 ^ 64 → true_count (bits_of ws) < 2 ^ 64
count_fits len ws small h fits =
    let least = count_by-le-length (λ (b : Bool). b) (low_bits len (number_of ws)) in
    omega (arith, counted len ws small h, length-low_bits len (number_of ws), least)

-- ---- the words so far
pub record Built (bits : List Bool) (i : ℕ) (ws : List ℕ) : Type 0 where
  pub count : length ws ≡ i
  pub small : number_of ws < 2 ^ min (64 * i) (length bits)
  pub rows : low_bits (min (64 * i) (length bits)) (number_of ws) ≡ take (64 * i) bits

pub built_none : (bits : List Bool) → Built bits 0 []
unfolding low_bits
built_none bits =
    let e : 0 ≡ min (64 * 0) (length bits) = omega arith in
    record {
      count = refl;
      small = omega (arith, pow_pos (min (64 * 0) (length bits)));
      rows = ap (λ (k : ℕ). low_bits k 0) (sym e);
    }

-- the next word has the next rows
pub record NextWord (bits : List Bool) (i w : ℕ) : Type 0 where
  pub small : w < 2 ^ min 64 (length bits - 64 * i)
  pub rows : low_bits (min 64 (length bits - 64 * i)) w ≡ take (min 64 (length bits - 64 * i)) (drop (64 * i) bits)

pub one_more : (i w : ℕ) (ws : List ℕ) → length ws ≡ i → number_of (ws ++ w ∷ []) ≡ number_of ws + 2 ^ (64 * i) * w
one_more i w ws e =
    let alone : w + 2 ^ 64 * 0 ≡ w = omega arith in
    number_l-append 64 ws (w ∷ []) ∙ (λ j. number_of ws + 2 ^ (64 * e j) * alone j)

pub built_more : (bits : List Bool) (i w : ℕ) (ws : List ℕ) → 64 * i < length bits → NextWord bits i w → Built bits i ws → Built bits (i + 1) (ws ++ w ∷ [])
built_more bits i w ws inside next h =
    let done = 64 * i in
    let c = min 64 (length bits - done) in
    let n = number_of ws in
    let so_far : min (64 * i) (length bits) ≡ done = omega arith in
    let after : min (64 * (i + 1)) (length bits) ≡ done + c = omega arith in
    let small : n < 2 ^ done = subst (λ (k : ℕ). n < 2 ^ k) so_far h.small in
    let number : number_of (ws ++ w ∷ []) ≡ n + 2 ^ done * w = one_more i w ws h.count in
    let rows : low_bits done n ≡ take done bits = ap (λ (k : ℕ). low_bits k n) (sym so_far) ∙ h.rows in
    let last : take c (drop done bits) ≡ take 64 (drop done bits) = ap (λ (k : ℕ). take (min 64 k) (drop done bits)) (sym (length-drop done bits)) ∙ take_min 64 (drop done bits) in
    let joined : done + 64 ≡ 64 * (i + 1) = omega arith in
    record {
      count = omega (arith, length-append ws (w ∷ []), h.count);
      small = subst (λ (k : ℕ). number_of (ws ++ w ∷ []) < 2 ^ k) (sym after) (omega (arith, number, mul_comm (2 ^ done) w, mul-add-lt w (2 ^ done) n (2 ^ c) next.small small, pow-add 2 done c));
      rows = ap₂ low_bits after number ∙ low_bits-add done c (n + 2 ^ done * w)
          ∙ (λ j. (low_bits-above done n w ∙ rows) j ++ (ap (low_bits c) (rest_of done n w small) ∙ next.rows ∙ last) j)
          ∙ sym (take-add done 64 bits)
          ∙ ap (λ (k : ℕ). take k bits) joined;
    }

pub built_all : (bits : List Bool) (len i : ℕ) (ws : List ℕ) → len ≡ length bits → i ≡ words_for len → Built bits i ws → IsMask len ws
built_all bits len i ws l e h =
    let all : min (64 * i) (length bits) ≡ len = omega arith in
    record {
      count = h.count ∙ e;
      small = subst (λ (k : ℕ). number_of ws < 2 ^ k) all h.small;
    }

pub built_rows : (bits : List Bool) (len i : ℕ) (ws : List ℕ) → len ≡ length bits → i ≡ words_for len → Built bits i ws → low_bits len (number_of ws) ≡ bits
built_rows bits len i ws l e h =
    let all : min (64 * i) (length bits) ≡ len = omega arith in
    ap (λ (k : ℕ). low_bits k (number_of ws)) (sym all) ∙ h.rows ∙ take_all (64 * i) bits (omega arith)

-- ---- the next word of a part
pub part_of_bits : (a c k n : ℕ) → a + c ≤ k → take c (drop a (low_bits k n)) ≡ low_bits c (n / 2 ^ a)
part_of_bits a c k n h =
    let r = k - (a + c) in
    let e : k ≡ a + (c + r) = omega arith in
    ap (λ (m : ℕ). take c (drop a (low_bits m n))) e ∙ ap (take c) (drop-low_bits a (c + r) n) ∙ take-low_bits c r (n / 2 ^ a)

pub part_of_part : (a c r : ℕ) (l : List Bool) → a + c ≤ r → take c (drop a (take r l)) ≡ take c (drop a l)
part_of_part a c r l h =
    let e : r ≡ a + (r - a) = omega arith in
    ap (λ (m : ℕ). take c (drop a (take m l))) e ∙ ap (take c) (drop-take a (r - a) l) ∙ take-take c (r - a) (drop a l) (omega arith)

pub next_of_slice : (len n start end i w : ℕ) → start ≤ end → end ≤ len → 64 * i < end - start → w ≡ n / 2 ^ (start + 64 * i) % 2 ^ min 64 (end - start - 64 * i)
    → NextWord (slice_range (low_bits len n) start end) i w
next_of_slice len n start end i w forwards inside more is =
    let bits = slice_range (low_bits len n) start end in
    let c = min 64 (end - start - 64 * i) in
    let long : length bits ≡ end - start = length-take-le (end - start) (drop start (low_bits len n)) (omega (arith, length-drop start (low_bits len n), length-low_bits len n)) in
    let same : min 64 (length bits - 64 * i) ≡ c = ap (λ (k : ℕ). min 64 (k - 64 * i)) long in
    let rows : low_bits c w ≡ take c (drop (64 * i) bits) =
    ap (low_bits c) is ∙ low_bits-mod c (n / 2 ^ (start + 64 * i)) ∙ sym (part_of_bits (start + 64 * i) c len n (omega arith))
    ∙ ap (take c) (sym (drop-drop (64 * i) start (low_bits len n))) ∙ sym (part_of_part (64 * i) c (end - start) (drop start (low_bits len n)) (omega arith)) in
    record {
      small = subst (λ (k : ℕ). w < 2 ^ k) (sym same) (omega (arith, is, mod_below (n / 2 ^ (start + 64 * i)) (2 ^ c) (pow_pos c)));
      rows = subst (λ (k : ℕ). low_bits k w ≡ take k (drop (64 * i) bits)) (sym same) rows;
    }

pub next_of_ones : (len i w : ℕ) → 64 * i < len → w ≡ 2 ^ min 64 (len - 64 * i) - 1 → NextWord (replicate len true) i w
next_of_ones len i w more is =
    let c = min 64 (len - 64 * i) in
    let bits = replicate len true in
    let same : min 64 (length bits - 64 * i) ≡ c = ap (λ (k : ℕ). min 64 (k - 64 * i)) (length-replicate len true) in
    let rows : low_bits c w ≡ take c (drop (64 * i) bits) =
    ap (low_bits c) is ∙ low_bits-ones c ∙ sym (ap (take c) (drop-replicate (64 * i) len true) ∙ take-replicate c (len - 64 * i) true (omega arith)) in
    record {
      small = subst (λ (k : ℕ). w < 2 ^ k) (sym same) (omega (arith, is, pow_pos c));
      rows = subst (λ (k : ℕ). low_bits k w ≡ take k (drop (64 * i) bits)) (sym same) rows;
    }

pub next_of_bits : (bits : List Bool) (i w : ℕ) → 64 * i < length bits → w ≡ mask_l (take (min 64 (length bits - 64 * i)) (drop (64 * i) bits)) → NextWord bits i w
next_of_bits bits i w more is =
    let c = min 64 (length bits - 64 * i) in
    let part = take c (drop (64 * i) bits) in
    let long : length part ≡ c = length-take-le c (drop (64 * i) bits) (omega (arith, length-drop (64 * i) bits)) in
    record {
      small = subst (λ (k : ℕ). w < 2 ^ k) long (omega (arith, is, mask_l-lt part));
      rows = ap (low_bits c) is ∙ ap (λ (k : ℕ). low_bits k (mask_l part)) (sym long) ∙ low_bits-mask part;
    }

-- ---- all rows false
pub number_of-zeros : (k : ℕ) → number_of (replicate k 0) ≡ 0
number_of-zeros zero = refl
number_of-zeros (suc k) = omega (arith, number_of-zeros k)

pub none_mask : (len k : ℕ) (ws : List ℕ) → k ≡ words_for len → ws ≡ replicate k 0 → IsMask len ws
none_mask len k ws e is = record {
  count = ap length is ∙ length-replicate k 0 ∙ e;
  small = omega (arith, ap number_of is, number_of-zeros k, pow_pos len);
}

pub none_rows : (len k : ℕ) (ws : List ℕ) → ws ≡ replicate k 0 → low_bits len (number_of ws) ≡ replicate len false
none_rows len k ws is = ap (low_bits len) (ap number_of is ∙ number_of-zeros k) ∙ low_bits-nothing len

-- ---- two masks
pub and_mask : (len : ℕ) (xs ys zs : List ℕ) → IsMask len xs → length zs ≡ length xs → number_of zs ≡ bit_and (number_of xs) (number_of ys) → IsMask len zs
and_mask len xs ys zs h same e = record { count = same ∙ h.count; small = omega (arith, e, and_le_l (number_of xs) (number_of ys), h.small) }

pub and_rows : (len : ℕ) (xs ys zs : List ℕ) → number_of zs ≡ bit_and (number_of xs) (number_of ys) → low_bits len (number_of zs) ≡ both (low_bits len (number_of xs)) (low_bits len (number_of ys))
and_rows len xs ys zs e = ap (low_bits len) e ∙ low_bits-and len (number_of xs) (number_of ys)

-- ---- truth values
shifted_bit : (b : Bool) (i : ℕ) → i < 64 → cond b 1 0 * 2 ^ i % 2 ^ 64 ≡ cond b 1 0 * 2 ^ i
shifted_bit true i h = one_shl i 64 h ∙ omega arith
shifted_bit false i h = ap (λ (x : ℕ). x % 2 ^ 64) (zero-mul (2 ^ i)) ∙ sym (zero-mul (2 ^ i))

pub packed_more : (bits : List Bool) (i word : ℕ) → i < length bits → length bits ≤ 64 → word ≡ mask_l (take i bits) → word + cond (get_or bits i false) 1 0 * 2 ^ i % 2 ^ 64 ≡ mask_l (take (i + 1) bits)
packed_more bits i word h few e = (λ j. e j + shifted_bit (get_or bits i false) i (omega arith) j) ∙ sym (mask_l_more bits i h)

pub packed_fits : (bits : List Bool) (i word : ℕ) → i < length bits → length bits ≤ 64 → word ≡ mask_l (take i bits) → word + cond (get_or bits i false) 1 0 * 2 ^ i % 2 ^ 64 < 2 ^ 64
packed_fits bits i word h few e =
    let part = take (i + 1) bits in
    let wide : length part ≤ 64 = omega (arith, length-take-le (i + 1) bits (omega arith)) in
    omega (arith, packed_more bits i word h few e, mask_l-lt part, pow_mono wide)
