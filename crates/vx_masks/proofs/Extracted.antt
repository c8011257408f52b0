-- The bits of one number at the bits that are set in another.
use Rattle.std.proofs.Common.{◌≡◌, ℕ, suc, ◌+◌, ◌*◌, ◌/◌, ◌%◌, ◌^◌, ◌<◌, ◌≤◌, Bool, true, false, List, [], ◌∷◌, ◌++◌, drop, replicate, sym, ap, subst, ◌∙◌, arith}
use Rattle.std.specs.Prelude.{◌==◌}
use lib.Count.{ones, count_trailing_zeros}
use lib.Pow.{pow_mono}
use Rattle.std.proofs.Math.Nat.{mul_comm}
use Rattle.std.proofs.lemmas.List.{append_assoc, append-nil}
use Rattle.std.proofs.lemmas.List.Sums.{count_by-le-length}
use Rattle.std.proofs.lemmas.Nat.{mul-add-lt, shr-shr, shr_below, shl_whole}
use Rattle.vx_masks.specs.Masks.{true_count, chosen}
use Rattle.vx_masks.specs.Words.{low_bits}
use Rattle.vx_masks.proofs.LowBits.{lowest_one, length-low_bits, low_bits-add, low_bits-above, low_bits-nothing, drop-low_bits, true_count-low_bits}
use Rattle.vx_masks.proofs.Numbers.{rest_of}
use Rattle.vx_masks.proofs.Places.{true_count-cons, count_none}
use Rattle.vx_masks.proofs.Ranks.{low_bits-few}
use Rattle.vx_masks.proofs.Walked.{low_bits-single, low_bits-next, ones_nothing}
use Rattle.vx_masks.proofs.Chosen.{chosen_skip, chosen_nothing, chosen_wide, chosen_front}

pub record Extracted (word value result count rest left : ℕ) : Type 0 where
  pub same : low_bits count result ++ chosen (low_bits 64 rest) (low_bits 64 left) ≡ chosen (low_bits 64 word) (low_bits 64 value)
  pub small : result < 2 ^ count
  pub counted : count + ones rest ≡ ones word

pub extracted_none : (word value : ℕ) → Extracted word value 0 0 word value
extracted_none word value = record {
  same = ap (λ (bs : List Bool). bs ++ chosen (low_bits 64 word) (low_bits 64 value)) (low_bits-few 0);
  small = omega arith;
  counted = omega arith;
}

counted_all : (word value result count rest left : ℕ) → rest ≡ 0 → Extracted word value result count rest left → count ≡ ones word
counted_all word value result count rest left e h = omega (arith, h.counted, ap ones e, ones_nothing)

pub extracted_rows : (word value result count rest left : ℕ) → rest ≡ 0 → Extracted word value result count rest left → low_bits (ones word) result ≡ chosen (low_bits 64 word) (low_bits 64 value)
extracted_rows word value result count rest left e h =
    let none : chosen (low_bits 64 rest) (low_bits 64 left) ≡ [] =
    ap (λ (n : ℕ). chosen (low_bits 64 n) (low_bits 64 left)) e ∙ ap (λ (bs : List Bool). chosen bs (low_bits 64 left)) (low_bits-nothing 64) ∙ chosen_nothing Bool 64 (low_bits 64 left) in
    ap (λ (k : ℕ). low_bits k result) (sym (counted_all word value result count rest left e h))
    ∙ sym (append-nil (low_bits count result)) ∙ ap (λ (bs : List Bool). low_bits count result ++ bs) (sym none) ∙ h.same

pub extracted_small : (word value result count rest left : ℕ) → rest ≡ 0 → Extracted word value result count rest left → result < 2 ^ ones word
extracted_small word value result count rest left e h = subst (λ (k : ℕ). result < 2 ^ k) (counted_all word value result count rest left e h) h.small

few_ones : (word : ℕ) → word < 2 ^ 64 → ones word ≤ 64
few_ones word h = omega (arith, true_count-low_bits 64 word h, length-low_bits 64 word, count_by-le-length (λ (b : Bool). b) (low_bits 64 word))

some_one : (k rest p above : ℕ) → rest < 2 ^ k → low_bits k rest ≡ replicate p false ++ true ∷ low_bits above (rest / 2 ^ suc p) → rest / 2 ^ suc p < 2 ^ above → ones rest ≡ suc (ones (rest / 2 ^ suc p))
some_one k rest p above small split less =
    let ys = low_bits above (rest / 2 ^ suc p) in
    sym (true_count-low_bits k rest small) ∙ ap true_count split ∙ count_none p (true ∷ ys) ∙ omega (arith, true_count-cons true ys, true_count-low_bits above (rest / 2 ^ suc p) less)

pub count_inside : (word value result count rest left : ℕ) → word < 2 ^ 64 → 0 < rest → rest < 2 ^ 64 → Extracted word value result count rest left → count < 64
count_inside word value result count rest left fits some small h =
    let lowest = lowest_one 64 rest some small in
    let p = count_trailing_zeros 64 rest in
    let wide : 64 ≡ lowest.0 + suc p = omega (arith, lowest.1.count) in
    let less : rest / 2 ^ suc p < 2 ^ lowest.0 = shr_below rest lowest.0 (suc p) (subst (λ (k : ℕ). rest < 2 ^ k) wide small) in
    omega (arith, some_one 64 rest p lowest.0 small lowest.1.split less, few_ones word fits, h.counted)

-- one bit more
bit_shifted : (b count : ℕ) → b < 2 → count < 64 → b * 2 ^ count % 2 ^ 64 ≡ b * 2 ^ count
bit_shifted b count h lt = shl_whole b 1 count 64 h (omega arith)

grown_small : (result b count : ℕ) → b < 2 → result < 2 ^ count → result + b * 2 ^ count < 2 ^ (count + 1)
grown_small result b count h small =
    let next : count + 1 ≡ suc count = omega arith in
    omega (arith, mul-add-lt b (2 ^ count) result 2 h small, ap (λ (k : ℕ). 2 ^ k) next)

grown_bits : (result b count : ℕ) → b < 2 → result < 2 ^ count → low_bits (count + 1) (result + b * 2 ^ count) ≡ low_bits count result ++ (b == 1) ∷ []
grown_bits result b count h small =
    ap (λ (x : ℕ). low_bits (count + 1) (result + x)) (mul_comm b (2 ^ count)) ∙ low_bits-add count 1 (result + 2 ^ count * b)
    ∙ (λ j. low_bits-above count result b j ++ (ap (low_bits 1) (rest_of count result b small) ∙ low_bits-single b h) j)

extracted_one : (word value result count rest left : ℕ) → word < 2 ^ 64 → 0 < rest → rest < 2 ^ 64 → Extracted word value result count rest left
    → Extracted word value (result + left / 2 ^ count_trailing_zeros 64 rest % 2 * 2 ^ count) (count + 1) (rest / 2 ^ suc (count_trailing_zeros 64 rest)) (left / 2 ^ count_trailing_zeros 64 rest / 2)
extracted_one word value result count rest left fits some small h =
    let p = count_trailing_zeros 64 rest in
    let lowest = lowest_one 64 rest some small in
    let above = lowest.0 in
    let after = rest / 2 ^ suc p in
    let here = left / 2 ^ p in
    let later = here / 2 in
    let b = here % 2 in
    let up : 64 ≡ p + suc above = omega (arith, lowest.1.count) in
    let wide : 64 ≡ above + suc p = omega (arith, lowest.1.count) in
    let less : after < 2 ^ above = shr_below rest above (suc p) (subst (λ (k : ℕ). rest < 2 ^ k) wide small) in
    let few = low_bits above after in
    let tail : chosen (low_bits 64 after) (low_bits 64 later) ≡ chosen few (low_bits above later) =
    ap (λ (k : ℕ). chosen (low_bits k after) (low_bits 64 later)) wide ∙ chosen_wide Bool above (suc p) after (low_bits 64 later) less
    ∙ ap (λ (k : ℕ). chosen few (low_bits k later)) wide ∙ ap (chosen few) (low_bits-add above (suc p) later)
    ∙ chosen_front Bool few (low_bits above later) (low_bits (suc p) (later / 2 ^ above)) (omega (arith, length-low_bits above after, length-low_bits above later)) in
    let dropped : drop p (low_bits 64 left) ≡ (b == 1) ∷ low_bits above later = ap (λ (k : ℕ). drop p (low_bits k left)) up ∙ drop-low_bits p (suc above) left ∙ low_bits-next above here in
    let split : chosen (low_bits 64 rest) (low_bits 64 left) ≡ (b == 1) ∷ chosen few (low_bits above later) =
    ap (λ (bs : List Bool). chosen bs (low_bits 64 left)) lowest.1.split ∙ chosen_skip Bool p (true ∷ few) (low_bits 64 left) ∙ ap (chosen (true ∷ few)) dropped in
    let bit : b < 2 = omega arith in
    record {
      same = (λ j. grown_bits result b count bit h.small j ++ tail j)
          ∙ append_assoc (low_bits count result) ((b == 1) ∷ []) (chosen few (low_bits above later))
          ∙ ap (λ (bs : List Bool). low_bits count result ++ bs) (sym split) ∙ h.same;
      small = grown_small result b count bit h.small;
      counted = omega (arith, h.counted, some_one 64 rest p above small lowest.1.split less);
    }

pub extracted_more : (word value result count rest left : ℕ) → word < 2 ^ 64 → 0 < rest → rest < 2 ^ 64 → Extracted word value result count rest left
    → Extracted word value (result + left / 2 ^ count_trailing_zeros 64 rest % 2 * 2 ^ count % 2 ^ 64) (count + 1) (rest / 2 ^ count_trailing_zeros 64 rest / 2 ^ 1) (left / 2 ^ count_trailing_zeros 64 rest / 2 ^ 1)
extracted_more word value result count rest left fits some small h =
    let p = count_trailing_zeros 64 rest in
    let b = left / 2 ^ p % 2 in
    let bit : b < 2 = omega arith in
    let next : suc p ≡ p + 1 = omega arith in
    let number : rest / 2 ^ suc p ≡ rest / 2 ^ p / 2 ^ 1 = ap (λ (k : ℕ). rest / 2 ^ k) next ∙ sym (shr-shr rest p 1) in
    subst (λ (n : ℕ). Extracted word value (result + n) (count + 1) (rest / 2 ^ p / 2 ^ 1) (left / 2 ^ p / 2 ^ 1)) (sym (bit_shifted b count bit (count_inside word value result count rest left fits some small h)))
    (subst (λ (n : ℕ). Extracted word value (result + b * 2 ^ count) (count + 1) n (left / 2 ^ p / 2 ^ 1)) number (extracted_one word value result count rest left fits some small h))

pub extracted_fits : (word value result count rest left : ℕ) → word < 2 ^ 64 → 0 < rest → rest < 2 ^ 64 → Extracted word value result count rest left → result + left / 2 ^ count_trailing_zeros 64 rest % 2 * 2 ^ count % 2 ^ 64 < 2 ^ 64
extracted_fits word value result count rest left fits some small h =
    let b = left / 2 ^ count_trailing_zeros 64 rest % 2 in
    let bit : b < 2 = omega arith in
    let lt = count_inside word value result count rest left fits some small h in
    let most : count + 1 ≤ 64 = omega arith in
    omega (arith, bit_shifted b count bit lt, grown_small result b count bit h.small, pow_mono most)
