-- Rows of a mask at given places, and bits that are pushed behind words.
use Rattle.std.proofs.Common.{◌≡◌, ℕ, zero, suc, ◌+◌, ◌-◌, ◌*◌, ◌/◌, ◌%◌, ◌^◌, ◌<◌, ◌≤◌, Bool, false, List, [], ◌∷◌, ◌++◌, length, take, drop, get_or, refl, sym, ap, subst, ◌∙◌, arith}
use lib.Pow.{pow_mono}
use lib.Count.{ones}
use Rattle.std.proofs.lemmas.List.{length-append, take-map, drop-map}
use Rattle.std.proofs.lemmas.Nat.{shr-shr, shl-shr, shl_whole, shr_below, pow-add}
use Rattle.std.proofs.Math.Nat.{mul_comm, mul_assoc, mul-add}
use Rattle.vx_masks.specs.Masks.{chosen, true_count}
use Rattle.vx_masks.specs.Rows.{taken}
use Rattle.vx_masks.specs.Words.{low_bits, number_of, IsPushed}
use Rattle.vx_masks.proofs.LowBits.{length-low_bits, low_bits-add}
use Rattle.vx_masks.proofs.Built.{one_more}
use Rattle.vx_masks.proofs.Chosen.{WordRows, Filtered, filtered_none, filtered_more, chosen_wide, chosen_front}
use Rattle.vx_masks.proofs.Joined.{carried_more, joined_rows, joined_small}
use Rattle.vx_masks.proofs.Ranks.{low_bits-few, passed_more}

-- ---- rows at places
pub taken_at : (mask : List Bool) (places : List ℕ) (i : ℕ) → i < length places → get_or (taken false mask places) i false ≡ get_or mask (get_or places i 0) false
taken_at mask [] i h = absurd (omega arith)
taken_at mask (place ∷ places) zero h = refl
taken_at mask (place ∷ places) (suc i) h = taken_at mask places i (omega arith)

pub taken_part : (mask : List Bool) (places : List ℕ) (c s : ℕ) → taken false mask (take c (drop s places)) ≡ take c (drop s (taken false mask places))
taken_part mask places c s = sym (take-map (λ (place : ℕ). get_or mask place false) c (drop s places)) ∙ ap (take c) (sym (drop-map (λ (place : ℕ). get_or mask place false) s places))

-- ---- bits behind words
pub pushed_inside : (first : List ℕ) (carry shift value size : ℕ) → shift < 64 → value < 2 ^ size → shift + size < 64 → IsPushed first carry shift value size first (carry + value * 2 ^ shift % 2 ^ 64)
pushed_inside first carry shift value size inside fits few =
    let p = 2 ^ (64 * length first) in
    let whole : value * 2 ^ shift % 2 ^ 64 ≡ value * 2 ^ shift = shl_whole value size shift 64 fits (omega arith) in
    let three : 2 ^ (64 * length first + shift) * value ≡ p * (value * 2 ^ shift) =
    ap (λ (x : ℕ). x * value) (pow-add 2 (64 * length first) shift) ∙ mul_assoc p (2 ^ shift) value ∙ ap (λ (x : ℕ). p * x) (mul_comm (2 ^ shift) value) in
    record {
      count = omega arith;
      whole = omega (arith, mul-add p carry (value * 2 ^ shift % 2 ^ 64), ap (λ (x : ℕ). p * x) whole, three);
    }

pub pushed_over : (first : List ℕ) (carry shift value size : ℕ) → shift < 64 → carry < 2 ^ shift → size ≤ 64 → value < 2 ^ size → 64 ≤ shift + size
    → IsPushed first carry shift value size (first ++ (carry + value * 2 ^ shift % 2 ^ 64) ∷ []) (value / 2 ^ (63 - shift) / 2 ^ 1)
pushed_over first carry shift value size inside small few fits over =
    let t = 64 - shift in
    let n = length first in
    let turns : shift + t ≡ 64 = omega arith in
    let joined = carry + value * 2 ^ shift % 2 ^ 64 in
    let wide : value < 2 ^ 64 = omega (arith, fits, pow_mono few) in
    let next = carried_more (number_of first + 2 ^ (64 * n) * carry) (number_of first) carry n shift t value turns wide (record { whole = refl; small = small }) in
    let long : length (first ++ joined ∷ []) ≡ n + 1 = length-append first (joined ∷ []) in
    let part : (63 - shift) + 1 ≡ t = omega arith in
    let rest : value / 2 ^ (63 - shift) / 2 ^ 1 ≡ value / 2 ^ t = shr-shr value (63 - shift) 1 ∙ ap (λ (k : ℕ). value / 2 ^ k) part in
    record {
      count = omega (arith, long);
      whole = (λ j. one_more n joined first refl j + 2 ^ (64 * long j) * rest j) ∙ next.whole;
    }

-- ---- what the words so far choose of a mask
abbrev pub total : List ℕ → ℕ → ℕ
total words rest = number_of words + 2 ^ (64 * length words) * rest

pub record Sifted (mask values : List Bool) (i : ℕ) (words : List ℕ) (rest len : ℕ) : Type 0 where
  pub count : length words ≡ len / 64
  pub small : total words rest < 2 ^ len
  pub counted : len ≡ true_count (take (64 * i) mask)
  pub rows : Filtered Bool mask values (low_bits len (total words rest)) i

pub sifted_none : (mask values : List Bool) → Sifted mask values 0 [] 0 0
sifted_none mask values = record {
  count = omega arith;
  small = omega arith;
  counted = refl;
  rows = subst (λ (bs : List Bool). Filtered Bool mask values bs 0) (sym (low_bits-few (total [] 0))) (filtered_none Bool mask values);
}

pub rest_inside : (len n rest words : ℕ) → n ≡ len / 64 → words + 2 ^ (64 * n) * rest < 2 ^ len → rest < 2 ^ (len % 64)
rest_inside len n rest words e h =
    let place : len ≡ len % 64 + 64 * n = omega arith in
    let moved : rest * 2 ^ (64 * n) / 2 ^ (64 * n) ≡ rest = shl-shr rest (64 * n) in
    let less : rest * 2 ^ (64 * n) < 2 ^ (len % 64 + 64 * n) = omega (arith, mul_comm (2 ^ (64 * n)) rest, ap (λ (k : ℕ). 2 ^ k) place) in
    omega (arith, moved, shr_below (rest * 2 ^ (64 * n)) (len % 64) (64 * n) less)

same_chosen : (mask values : List Bool) (i c w v : ℕ) → WordRows mask i c w → WordRows values i c v → chosen (low_bits 64 w) (drop (64 * i) values) ≡ chosen (low_bits 64 w) (low_bits 64 v)
same_chosen mask values i c w v one two =
    let wide : 64 ≡ c + (64 - c) = omega (arith, one.count) in
    let few = low_bits c w in
    let long : length few ≤ length (low_bits c v) = omega (arith, length-low_bits c w, length-low_bits c v) in
    let narrow : (xs : List Bool) → chosen (low_bits 64 w) xs ≡ chosen few xs = λ xs. ap (λ (k : ℕ). chosen (low_bits k w) xs) wide ∙ chosen_wide Bool c (64 - c) w xs one.small in
    narrow (drop (64 * i) values) ∙ ap (chosen few) two.split ∙ chosen_front Bool few (low_bits c v) (drop (64 * (i + 1)) values) long
    ∙ sym (narrow (low_bits 64 v) ∙ ap (λ (k : ℕ). chosen few (low_bits k v)) wide ∙ ap (chosen few) (low_bits-add c (64 - c) v) ∙ chosen_front Bool few (low_bits c v) (low_bits (64 - c) (v / 2 ^ c)) long)

pub sifted_more : (mask values : List Bool) (i c w v picked : ℕ) (words more : List ℕ) (rest next len : ℕ) → WordRows mask i c w → WordRows values i c v
    → low_bits (ones w) picked ≡ chosen (low_bits 64 w) (low_bits 64 v) → picked < 2 ^ ones w → IsPushed words rest (len % 64) picked (ones w) more next
    → Sifted mask values i words rest len → Sifted mask values (i + 1) more next (len + ones w)
sifted_more mask values i c w v picked words more rest next len one two rows fits pushed h =
    let k = ones w in
    let place : 64 * length words + len % 64 ≡ len = omega (arith, h.count) in
    let whole : total more next ≡ total words rest + 2 ^ len * picked = pushed.whole ∙ ap (λ (n : ℕ). total words rest + 2 ^ n * picked) place in
    let kept : low_bits (len + k) (total more next) ≡ low_bits len (total words rest) ++ chosen (low_bits 64 w) (drop (64 * i) values) =
    ap (low_bits (len + k)) whole ∙ joined_rows len k (total words rest) picked h.small
    ∙ ap (λ (bs : List Bool). low_bits len (total words rest) ++ bs) (rows ∙ sym (same_chosen mask values i c w v one two)) in
    record {
      count = omega (arith, pushed.count, h.count);
      small = subst (λ (n : ℕ). n < 2 ^ (len + k)) (sym whole) (joined_small len k (total words rest) picked h.small fits);
      counted = passed_more mask i c w len one h.counted;
      rows = subst (λ (bs : List Bool). Filtered Bool mask values bs (i + 1)) (sym kept) (filtered_more Bool mask values (low_bits len (total words rest)) i c w one h.rows);
    }
