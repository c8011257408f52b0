-- How many rows a mask chooses, word by word.
use Rattle.std.proofs.Common.{◌≡◌, ℕ, suc, ◌+◌, ◌-◌, ◌*◌, ◌/◌, ◌%◌, ◌^◌, ◌<◌, ◌≤◌, Bool, List, ◌++◌, cond, length, take, drop, get_or, inl, inr, sym, ap, ap₂, subst, ◌∙◌, arith, bit_and}
use Rattle.std.specs.List.{flat_map}
use lib.Count.{ones}
use lib.Lanes.{number_l}
use Rattle.std.proofs.Math.Seq.{take-add}
use Rattle.std.proofs.lemmas.Grind.{flat_map-append}
use Rattle.std.proofs.lemmas.Bool.{cases_lt}
use Rattle.std.proofs.lemmas.List.{take-append-drop, length-take-le, length-take, get_or-take, get_or_past}
use Rattle.std.proofs.lemmas.List.Sums.{sum_by-append, count_by-le-length}
use Rattle.std.proofs.lemmas.Nat.{and_mask, pow_pos}
use Rattle.vx_masks.specs.Masks.{true_count}
use Rattle.vx_masks.specs.Words.{bits_of, low_bits, number_of, Small}
use Rattle.vx_masks.proofs.LowBits.{length-low_bits, low_bits-add, low_bits-above, low_bits-mod, take-low_bits, true_count-low_bits}
use Rattle.vx_masks.proofs.Numbers.{low_bits-words, number_l-append, number_l-drop, number_l-split, power_split}

-- ---- the bits before one
small_front : (w n : ℕ) (ws : List ℕ) → Small w ws → Small w (take n ws)
small_front w n ws h = record {
  small = λ i. elim (cases_lt i n) [
    | inl inside ↦ subst (λ (x : ℕ). x < 2 ^ w) (sym (get_or-take n ws i 0 inside)) (h.small i)
    | inr past ↦ subst (λ (x : ℕ). x < 2 ^ w) (sym (get_or_past (take n ws) i 0 (omega (arith, length-take n ws)))) (pow_pos w)
  ];
}

rows_before : (w q s row : ℕ) (ws : List ℕ) → row ≡ w * q + s → s ≤ w → q ≤ length ws → Small w ws → low_bits row (number_l (2 ^ w) ws) ≡ flat_map (low_bits w) (take q ws) ++ low_bits s (get_or ws q 0)
rows_before w q s row ws e le inside h =
    let n = number_l (2 ^ w) ws in
    let front = take q ws in
    let rest = number_l (2 ^ w) (drop q ws) in
    let later = number_l (2 ^ w) (drop (suc q) ws) in
    let many : length front ≡ q = length-take-le q ws inside in
    let split : n ≡ number_l (2 ^ w) front + 2 ^ (w * q) * rest =
    sym (ap (number_l (2 ^ w)) (take-append-drop q ws)) ∙ number_l-append w front (drop q ws) ∙ ap (λ (k : ℕ). number_l (2 ^ w) front + 2 ^ (w * k) * rest) many in
    let low : low_bits (w * q) n ≡ flat_map (low_bits w) front =
    ap (low_bits (w * q)) split ∙ low_bits-above (w * q) (number_l (2 ^ w) front) rest ∙ ap (λ (k : ℕ). low_bits (w * k) (number_l (2 ^ w) front)) (sym many) ∙ low_bits-words w front (small_front w q ws h) in
    let next : n / 2 ^ (w * q) ≡ get_or ws q 0 + 2 ^ w * later = sym (number_l-drop w q ws h) ∙ number_l-split w q ws in
    let power : 2 ^ w * later ≡ 2 ^ s * (2 ^ (w - s) * later) = power_split w s (w - s) later (omega arith) in
    let high : low_bits s (n / 2 ^ (w * q)) ≡ low_bits s (get_or ws q 0) =
    ap (low_bits s) (next ∙ ap (λ (m : ℕ). get_or ws q 0 + m) power) ∙ low_bits-above s (get_or ws q 0) (2 ^ (w - s) * later) in
    ap (λ (k : ℕ). low_bits k n) e ∙ low_bits-add (w * q) s n ∙ ap₂ (λ (xs ys : List Bool). xs ++ ys) low high

count-append : (xs ys : List Bool) → true_count (xs ++ ys) ≡ true_count xs + true_count ys
count-append xs ys = sum_by-append (λ (bit : Bool). cond bit 1 0) xs ys

-- so many rows of the mask are true before the row
count_before : (w q s row : ℕ) (mask : List Bool) (ws : List ℕ) → mask ≡ low_bits (length mask) (number_l (2 ^ w) ws) → row ≤ length mask → row ≡ w * q + s → s ≤ w → q ≤ length ws → Small w ws
    → true_count (take row mask) ≡ true_count (flat_map (low_bits w) (take q ws)) + true_count (low_bits s (get_or ws q 0))
count_before w q s row mask ws is le e small_part inside h =
    let n = number_l (2 ^ w) ws in
    let all : length mask ≡ row + (length mask - row) = omega arith in
    let bits : mask ≡ low_bits (row + (length mask - row)) n = is ∙ ap (λ (k : ℕ). low_bits k n) all in
    ap true_count (ap (take row) bits ∙ take-low_bits row (length mask - row) n ∙ rows_before w q s row ws e small_part inside h)
    ∙ count-append (flat_map (low_bits w) (take q ws)) (low_bits s (get_or ws q 0))

-- ---- the rows between two
abbrev pub in_word : List ℕ → ℕ → ℕ
in_word ws row = true_count (low_bits (row % 64) (get_or ws (row / 64) 0))

-- the words from that of the one row up to that of the other
abbrev pub words_between : List ℕ → ℕ → ℕ → List ℕ
words_between ws from to = take (to / 64 - from / 64) (drop (from / 64) ws)

pub record CountedBetween (mask : List Bool) (ws : List ℕ) (from to : ℕ) : Type 0 where
  pub count : true_count (bits_of (words_between ws from to)) + in_word ws to ≡ true_count (take (to - from) (drop from mask)) + in_word ws from
  pub few : true_count (bits_of (words_between ws from to)) + in_word ws to ≤ to

pub counted_between : (mask : List Bool) (ws : List ℕ) (from to : ℕ) → mask ≡ low_bits (length mask) (number_of ws) → Small 64 ws → length ws ≡ (length mask + 63) / 64 → from ≤ to → to ≤ length mask → CountedBetween mask ws from to
counted_between mask ws from to is h many order inside =
    let a = from / 64 in
    let b = to / 64 in
    let part = words_between ws from to in
    let one = count_before 64 a (from % 64) from mask ws is (omega arith) (omega arith) (omega arith) (omega (arith, many)) h in
    let two = count_before 64 b (to % 64) to mask ws is (omega arith) (omega arith) (omega arith) (omega (arith, many)) h in
    let words : take b ws ≡ take a ws ++ part = (let place : b ≡ a + (b - a) = omega arith in ap (λ (k : ℕ). take k ws) place ∙ take-add a (b - a) ws) in
    let whole : true_count (bits_of (take b ws)) ≡ true_count (bits_of (take a ws)) + true_count (bits_of part) =
    ap (λ (xs : List ℕ). true_count (bits_of xs)) words ∙ ap true_count (flat_map-append (low_bits 64) (take a ws) part) ∙ count-append (bits_of (take a ws)) (bits_of part) in
    let rows : true_count (take to mask) ≡ true_count (take from mask) + true_count (take (to - from) (drop from mask)) =
    (let place : to ≡ from + (to - from) = omega arith in ap (λ (k : ℕ). true_count (take k mask)) place ∙ ap true_count (take-add from (to - from) mask) ∙ count-append (take from mask) (take (to - from) (drop from mask))) in
    record {
      count = omega (arith, one, two, whole, rows);
      few = omega (arith, two, whole, count_by-le-length (λ (bit : Bool). bit) (take to mask), length-take to mask);
    }

-- the same of so many rows of the words
pub counted_in : (ws : List ℕ) (rows from to : ℕ) → Small 64 ws → length ws ≡ (rows + 63) / 64 → from ≤ to → to ≤ rows → CountedBetween (low_bits rows (number_of ws)) ws from to
counted_in ws rows from to small many order inside =
    let bits = low_bits rows (number_of ws) in
    let len = length-low_bits rows (number_of ws) in
    counted_between bits ws from to (ap (λ (k : ℕ). low_bits k (number_of ws)) (sym len)) small (many ∙ ap (λ (k : ℕ). (k + 63) / 64) (sym len)) order (omega (arith, inside, len))

-- ---- the rows before one in its word
pub masked_word : (word s low : ℕ) → low ≡ bit_and word (2 ^ s - 1) → ones low ≡ true_count (low_bits s word)
masked_word word s low is =
    let cut : low ≡ word % 2 ^ s = is ∙ and_mask word s in
    ap ones cut ∙ sym (true_count-low_bits s (word % 2 ^ s) (omega (arith, pow_pos s))) ∙ ap true_count (low_bits-mod s word)

pub none_before : (s word : ℕ) → s ≡ 0 → 0 ≡ true_count (low_bits s word)
unfolding low_bits
none_before s word e = ap (λ (k : ℕ). true_count (low_bits k word)) (sym e)
