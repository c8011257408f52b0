-- Truth values packed into bytes, and the number that the bytes spell.
use Rattle.std.proofs.Common.{eqb, IsTrue, ◌↔◌, eqb-true, eq-eqb, inl, inr, ◌≡◌, ℕ, zero, suc, ◌+◌, ◌-◌, ◌*◌, ◌/◌, ◌%◌, ◌^◌, ◌<◌, ◌≤◌, min, Bool, cond, List, [], ◌∷◌, length, take, drop, get_or, refl, sym, ap, subst, ◌∙◌, arith, zero-add}
use lib.Lanes.{number_l, mask_l}
use lib.Pow.{pow_mono}
use Rattle.std.proofs.lemmas.Bool.{cases_lt}
use Rattle.std.proofs.lemmas.List.{length-take, length-take-le, take-append-drop, take_more, take_all, drop_all, get_or-drop, get_or-take, get_or_past}
use Rattle.std.proofs.lemmas.Simd.{mask_l-lt}
use Rattle.std.proofs.lemmas.Nat.{pow_pos, shr_below, shr_split, shl_whole, mod_below}
use Rattle.std.proofs.Math.Nat.{mod-eq_of_lt, mul_comm}
use Rattle.vx_masks.specs.Words.{low_bits, Small}
use Rattle.vx_masks.specs.Bytes.{byte_of, packed, SpellNoRows}
use Rattle.vx_masks.proofs.LowBits.{length-low_bits, low_bits-mod, mask_l-low_bits}
use Rattle.vx_masks.proofs.Numbers.{small_tail, rest_of, first_of, number_l-append, number_l-lt, number_l-drop, number_l-split, number_at}
use Rattle.vx_masks.proofs.Built.{NextWord, part_of_bits}
use Rattle.vx_masks.proofs.Chosen.{rejoined}

abbrev spelled : List ℕ → ℕ
spelled bytes = number_l (2 ^ 8) bytes

pub packed_number : (bits : List Bool) → spelled (packed bits) ≡ mask_l bits
packed_number [] = refl
packed_number (a ∷ []) = omega arith
packed_number (a ∷ b ∷ []) = omega arith
packed_number (a ∷ b ∷ c ∷ []) = omega arith
packed_number (a ∷ b ∷ c ∷ d ∷ []) = omega arith
packed_number (a ∷ b ∷ c ∷ d ∷ e ∷ []) = omega arith
packed_number (a ∷ b ∷ c ∷ d ∷ e ∷ f ∷ []) = omega arith
packed_number (a ∷ b ∷ c ∷ d ∷ e ∷ f ∷ g ∷ []) = omega arith
packed_number (a ∷ b ∷ c ∷ d ∷ e ∷ f ∷ g ∷ h ∷ bits) = omega (arith, packed_number bits)

pub length-packed : (bits : List Bool) → length (packed bits) ≡ (length bits + 7) / 8
length-packed [] = refl
length-packed (a ∷ []) = refl
length-packed (a ∷ b ∷ []) = refl
length-packed (a ∷ b ∷ c ∷ []) = refl
length-packed (a ∷ b ∷ c ∷ d ∷ []) = refl
length-packed (a ∷ b ∷ c ∷ d ∷ e ∷ []) = refl
length-packed (a ∷ b ∷ c ∷ d ∷ e ∷ f ∷ []) = refl
length-packed (a ∷ b ∷ c ∷ d ∷ e ∷ f ∷ g ∷ []) = refl
length-packed (a ∷ b ∷ c ∷ d ∷ e ∷ f ∷ g ∷ h ∷ bits) = omega (arith, length-packed bits)

byte_is : (bits : List Bool) → byte_of bits ≡ mask_l bits
byte_is [] = refl
byte_is (b ∷ bits) = ap (λ (n : ℕ). cond b 1 0 + 2 * n) (byte_is bits)

few_small : (bits : List Bool) → length bits ≤ 8 → byte_of bits < 2 ^ 8
few_small bits h = omega (arith, byte_is bits, mask_l-lt bits, pow_mono h)

one_at : (n : ℕ) → n < 2 ^ 8 → (i : ℕ) → get_or (n ∷ []) i 0 < 2 ^ 8
one_at n h zero = h
one_at n h (suc i) = omega arith

one_byte : (n : ℕ) → n < 2 ^ 8 → Small 8 (n ∷ [])
one_byte n h = record { small = λ i. one_at n h i }

more_at : (n : ℕ) (ws : List ℕ) → n < 2 ^ 8 → Small 8 ws → (i : ℕ) → get_or (n ∷ ws) i 0 < 2 ^ 8
more_at n ws h l zero = h
more_at n ws h l (suc i) = l.small i

pub packed_small : (bits : List Bool) → Small 8 (packed bits)
packed_small [] = record { small = λ i. omega arith }
packed_small (a ∷ []) = one_byte (byte_of (a ∷ [])) (few_small (a ∷ []) (omega arith))
packed_small (a ∷ b ∷ []) = one_byte (byte_of (a ∷ b ∷ [])) (few_small (a ∷ b ∷ []) (omega arith))
packed_small (a ∷ b ∷ c ∷ []) = one_byte (byte_of (a ∷ b ∷ c ∷ [])) (few_small (a ∷ b ∷ c ∷ []) (omega arith))
packed_small (a ∷ b ∷ c ∷ d ∷ []) = one_byte (byte_of (a ∷ b ∷ c ∷ d ∷ [])) (few_small (a ∷ b ∷ c ∷ d ∷ []) (omega arith))
packed_small (a ∷ b ∷ c ∷ d ∷ e ∷ []) = one_byte (byte_of (a ∷ b ∷ c ∷ d ∷ e ∷ [])) (few_small (a ∷ b ∷ c ∷ d ∷ e ∷ []) (omega arith))
packed_small (a ∷ b ∷ c ∷ d ∷ e ∷ f ∷ []) = one_byte (byte_of (a ∷ b ∷ c ∷ d ∷ e ∷ f ∷ [])) (few_small (a ∷ b ∷ c ∷ d ∷ e ∷ f ∷ []) (omega arith))
packed_small (a ∷ b ∷ c ∷ d ∷ e ∷ f ∷ g ∷ []) = one_byte (byte_of (a ∷ b ∷ c ∷ d ∷ e ∷ f ∷ g ∷ [])) (few_small (a ∷ b ∷ c ∷ d ∷ e ∷ f ∷ g ∷ []) (omega arith))
packed_small (a ∷ b ∷ c ∷ d ∷ e ∷ f ∷ g ∷ h ∷ bits) =
    let eight = a ∷ b ∷ c ∷ d ∷ e ∷ f ∷ g ∷ h ∷ [] in
    record { small = more_at (byte_of eight) (packed bits) (few_small eight (omega arith)) (packed_small bits) }

-- equal numbers of equally many digits have equal digits
pub same_digits : (w : ℕ) (xs ys : List ℕ) → Small w xs → Small w ys → length xs ≡ length ys → number_l (2 ^ w) xs ≡ number_l (2 ^ w) ys → xs ≡ ys
same_digits w [] [] h l len e = refl
same_digits w [] (y ∷ ys) h l len e = absurd (omega arith)
same_digits w (x ∷ xs) [] h l len e = absurd (omega arith)
same_digits w (x ∷ xs) (y ∷ ys) h l len e =
    let m = number_l (2 ^ w) xs in
    let n = number_l (2 ^ w) ys in
    let one : x ≡ y = sym (first_of w x m (h.small 0)) ∙ ap (λ (k : ℕ). k % 2 ^ w) e ∙ first_of w y n (l.small 0) in
    let more : m ≡ n = sym (rest_of w x m (h.small 0)) ∙ ap (λ (k : ℕ). k / 2 ^ w) e ∙ rest_of w y n (l.small 0) in
    λ i. one i ∷ same_digits w xs ys (small_tail w x xs h) (small_tail w y ys l) (omega arith) more i

-- the bytes that spell a number below the rows' power are those of its bits
pub packed_bits : (len : ℕ) (bytes : List ℕ) → Small 8 bytes → length bytes ≡ (len + 7) / 8 → spelled bytes < 2 ^ len → packed (low_bits len (spelled bytes)) ≡ bytes
packed_bits len bytes small count below =
    let bits = low_bits len (spelled bytes) in
    let long : length (packed bits) ≡ length bytes = length-packed bits ∙ ap (λ (k : ℕ). (k + 7) / 8) (length-low_bits len (spelled bytes)) ∙ sym count in
    same_digits 8 (packed bits) bytes (packed_small bits) small long (packed_number bits ∙ mask_l-low_bits len (spelled bytes) ∙ mod-eq_of_lt below)

pub wrong_count : (len : ℕ) (bytes : List ℕ) → (length bytes ≡ (len + 7) / 8 → ⊥) → SpellNoRows len bytes
wrong_count len bytes h bits rows e = h (sym (ap length e) ∙ length-packed bits ∙ ap (λ (k : ℕ). (k + 7) / 8) rows)

pub past_set : (len : ℕ) (bytes : List ℕ) → (spelled bytes < 2 ^ len → ⊥) → SpellNoRows len bytes
past_set len bytes h bits rows e =
    h (subst (λ (n : ℕ). n < 2 ^ len) (sym (packed_number bits) ∙ ap spelled e) (subst (λ (k : ℕ). mask_l bits < 2 ^ k) rows (mask_l-lt bits)))

-- ---- the bits past the last row
pub above_rows : (len : ℕ) (bytes : List ℕ) → Small 8 bytes → length bytes ≡ (len + 7) / 8 → spelled bytes / 2 ^ len ≡ get_or bytes (len / 8) 0 / 2 ^ (len % 8)
above_rows len bytes small count =
    let q = len / 8 in
    let s = len % 8 in
    let t = 8 - s in
    let place : len ≡ 8 * q + s = omega arith in
    let last : drop (suc q) bytes ≡ [] = drop_all (suc q) bytes (omega arith) in
    let none : 2 ^ t * spelled (drop (suc q) bytes) ≡ 0 = ap (λ (l : List ℕ). 2 ^ t * spelled l) last ∙ omega arith in
    ap (λ (k : ℕ). spelled bytes / 2 ^ k) place ∙ number_at 8 s t q bytes small (omega arith) ∙ omega (arith, none)

pub clear_below : (n k : ℕ) → n / 2 ^ k ≡ 0 → n < 2 ^ k
clear_below n k e = omega (arith, shr_split n k, mod_below n (2 ^ k) (pow_pos k), ap (λ (x : ℕ). x * 2 ^ k) e)

pub below_clear : (n k : ℕ) → n < 2 ^ k → n / 2 ^ k ≡ 0
below_clear n k h = omega (arith, shr_below n 0 k (subst (λ (i : ℕ). n < 2 ^ i) (sym (zero-add k)) h))

-- ---- a word from its bytes
pub spelled_more : (bytes : List ℕ) (i : ℕ) → i < length bytes → spelled (take (i + 1) bytes) ≡ spelled (take i bytes) + get_or bytes i 0 * 2 ^ (8 * i)
spelled_more bytes i h =
    let last = get_or bytes i 0 in
    let alone : last + 2 ^ 8 * 0 ≡ last = omega arith in
    ap spelled (take_more bytes i 0 h) ∙ number_l-append 8 (take i bytes) (last ∷ [])
    ∙ (λ j. spelled (take i bytes) + 2 ^ (8 * length-take-le i bytes (omega arith) j) * alone j)
    ∙ ap (λ (x : ℕ). spelled (take i bytes) + x) (mul_comm (2 ^ (8 * i)) last)

small_take : (w n : ℕ) (ws : List ℕ) → Small w ws → Small w (take n ws)
small_take w n ws h = record {
  small = λ i. elim (cases_lt i n) [
    | inl inside ↦ subst (λ (x : ℕ). x < 2 ^ w) (sym (get_or-take n ws i 0 inside)) (h.small i)
    | inr past ↦ subst (λ (x : ℕ). x < 2 ^ w) (sym (get_or_past (take n ws) i 0 (omega (arith, length-take n ws)))) (pow_pos w)
  ];
}

small_drop : (w n : ℕ) (ws : List ℕ) → Small w ws → Small w (drop n ws)
small_drop w n ws h = record { small = λ i. subst (λ (x : ℕ). x < 2 ^ w) (sym (get_or-drop n ws i 0)) (h.small (n + i)) }

-- the lowest eight bytes of a number
first_eight : (bytes : List ℕ) → Small 8 bytes → spelled (take 8 bytes) ≡ spelled bytes % 2 ^ 64
first_eight bytes small =
    let front = take 8 bytes in
    let rest = drop 8 bytes in
    let whole : spelled bytes ≡ spelled front + 2 ^ (8 * length front) * spelled rest = ap spelled (sym (take-append-drop 8 bytes)) ∙ number_l-append 8 front rest in
    let less : spelled front < 2 ^ (8 * length front) = number_l-lt 8 front (small_take 8 8 bytes small) in
    elim (cases_lt (length bytes) 8) [
      | inl few ↦
          let all : front ≡ bytes = take_all 8 bytes (omega arith) in
          let short : 8 * length front ≤ 64 = omega (arith, length-take 8 bytes) in
          let low : spelled bytes < 2 ^ 64 = omega (arith, ap spelled all, less, pow_mono short) in
          ap spelled all ∙ sym (mod-eq_of_lt low)
      | inr many ↦
          let long : 8 * length front ≡ 64 = omega (arith, length-take-le 8 bytes many) in
          let fits : spelled front < 2 ^ 64 = subst (λ (k : ℕ). spelled front < 2 ^ k) long less in
          sym (ap (λ (n : ℕ). n % 2 ^ 64) (whole ∙ ap (λ (k : ℕ). spelled front + 2 ^ k * spelled rest) long) ∙ first_of 64 (spelled front) (spelled rest) fits)
    ]

pub word_of_bytes : (i : ℕ) (bytes : List ℕ) → Small 8 bytes → spelled (take 8 (drop (8 * i) bytes)) ≡ spelled bytes / 2 ^ (64 * i) % 2 ^ 64
word_of_bytes i bytes small =
    let place : 8 * (8 * i) ≡ 64 * i = omega arith in
    first_eight (drop (8 * i) bytes) (small_drop 8 (8 * i) bytes small)
    ∙ ap (λ (n : ℕ). n % 2 ^ 64) (number_l-drop 8 (8 * i) bytes small ∙ ap (λ (k : ℕ). spelled bytes / 2 ^ k) place)

pub next_of_bytes : (len i w : ℕ) (bytes : List ℕ) → Small 8 bytes → spelled bytes < 2 ^ len → 64 * i < len → w ≡ spelled (take 8 (drop (8 * i) bytes)) → NextWord (low_bits len (spelled bytes)) i w
next_of_bytes len i w bytes small below more is =
    let n = spelled bytes in
    let bits = low_bits len n in
    let c = min 64 (len - 64 * i) in
    let same : min 64 (length bits - 64 * i) ≡ c = ap (λ (k : ℕ). min 64 (k - 64 * i)) (length-low_bits len n) in
    let left : n / 2 ^ (64 * i) < 2 ^ (len - 64 * i) = shr_below n (len - 64 * i) (64 * i) (subst (λ (k : ℕ). n < 2 ^ k) (rejoined len (64 * i) (omega arith)) below) in
    let number : w ≡ n / 2 ^ (64 * i) % 2 ^ c =
    is ∙ word_of_bytes i bytes small ∙ elim (cases_lt (len - 64 * i) 64) [
      | inl short ↦
          let part : c ≡ len - 64 * i = omega arith in
          let few : len - 64 * i ≤ 64 = omega arith in
          let less : n / 2 ^ (64 * i) < 2 ^ 64 = omega (arith, left, pow_mono few) in
          mod-eq_of_lt less ∙ sym (ap (λ (k : ℕ). n / 2 ^ (64 * i) % 2 ^ k) part ∙ mod-eq_of_lt left)
      | inr wide ↦ let whole : 64 ≡ c = omega arith in ap (λ (k : ℕ). n / 2 ^ (64 * i) % 2 ^ k) whole
    ] in
    let rows : low_bits c w ≡ take c (drop (64 * i) bits) = ap (low_bits c) number ∙ low_bits-mod c (n / 2 ^ (64 * i)) ∙ sym (part_of_bits (64 * i) c len n (omega arith)) in
    record {
      small = subst (λ (k : ℕ). w < 2 ^ k) (sym same) (omega (arith, number, mod_below (n / 2 ^ (64 * i)) (2 ^ c) (pow_pos c)));
      rows = subst (λ (k : ℕ). low_bits k w ≡ take k (drop (64 * i) bits)) (sym same) rows;
    }

-- ---- the bytes that are appended
pub byte_of_rows : (bits : List Bool) (n i : ℕ) → bits ≡ low_bits (length bits) n → n < 2 ^ length bits → get_or (packed bits) i 0 ≡ n / 2 ^ (8 * i) % 2 ^ 8
byte_of_rows bits n i view below =
    let number : spelled (packed bits) ≡ n = packed_number bits ∙ ap mask_l view ∙ mask_l-low_bits (length bits) n ∙ mod-eq_of_lt below in
    let split = number_l-split 8 i (packed bits) in
    let small = packed_small bits in
    sym (first_of 8 (get_or (packed bits) i 0) (spelled (drop (suc i) (packed bits))) (small.small i))
    ∙ ap (λ (x : ℕ). x % 2 ^ 8) (sym split ∙ number_l-drop 8 i (packed bits) small ∙ ap (λ (x : ℕ). x / 2 ^ (8 * i)) number)

pub clear_is : (bytes : List ℕ) (rows byte : ℕ) → Small 8 bytes → length bytes ≡ (rows + 7) / 8 → byte ≡ get_or bytes (rows / 8) 0 → IsTrue (eqb (byte / 2 ^ (rows % 8)) 0) ↔ (spelled bytes < 2 ^ rows)
clear_is bytes rows byte small count is =
    let above : spelled bytes / 2 ^ rows ≡ byte / 2 ^ (rows % 8) = above_rows rows bytes small count ∙ ap (λ (x : ℕ). x / 2 ^ (rows % 8)) (sym is) in
    (λ t. clear_below (spelled bytes) rows (above ∙ eqb-true (byte / 2 ^ (rows % 8)) 0 t), λ h. eq-eqb (byte / 2 ^ (rows % 8)) 0 (sym above ∙ below_clear (spelled bytes) rows h))

shifted_byte : (byte i : ℕ) → byte < 2 ^ 8 → i < 8 → byte * 2 ^ (8 * i) % 2 ^ 64 ≡ byte * 2 ^ (8 * i)
shifted_byte byte i h lt = shl_whole byte 8 (8 * i) 64 h (omega arith)

pub byte_more : (bytes : List ℕ) (i word : ℕ) → Small 8 bytes → length bytes ≤ 8 → i < length bytes → word ≡ spelled (take i bytes) → word + get_or bytes i 0 * 2 ^ (8 * i) % 2 ^ 64 ≡ spelled (take (i + 1) bytes)
byte_more bytes i word small few lt e = (λ j. e j + shifted_byte (get_or bytes i 0) i (small.small i) (omega arith) j) ∙ sym (spelled_more bytes i lt)

pub byte_fits : (bytes : List ℕ) (i word : ℕ) → Small 8 bytes → length bytes ≤ 8 → i < length bytes → word ≡ spelled (take i bytes) → word + get_or bytes i 0 * 2 ^ (8 * i) % 2 ^ 64 < 2 ^ 64
byte_fits bytes i word small few lt e =
    let part = take (i + 1) bytes in
    let wide : 8 * length part ≤ 64 = omega (arith, length-take (i + 1) bytes) in
    omega (arith, byte_more bytes i word small few lt e, number_l-lt 8 part (small_take 8 (i + 1) bytes small), pow_mono wide)
