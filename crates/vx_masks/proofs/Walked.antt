-- What a word chooses by rank, one set bit after the other.
use Rattle.std.proofs.Common.{inl, inr, ◌≡◌, ℕ, zero, suc, ◌+◌, ◌-◌, ◌*◌, ◌/◌, ◌%◌, ◌^◌, ◌<◌, ◌≤◌, Bool, true, false, List, [], ◌∷◌, ◌++◌, replicate, refl, sym, ap, ap₂, subst, ◌∙◌, arith}
use Rattle.std.specs.Prelude.{◌==◌}
use lib.Pow.{pow_mono}
use lib.Bits.{bit_and}
use lib.Count.{ones, ones_in, count_trailing_zeros}
use Rattle.std.proofs.Math.Nat.{mul_comm, mul_assoc}
use Rattle.std.proofs.lemmas.List.{append_assoc}
use Rattle.std.proofs.lemmas.Nat.{pow_pos, pow-add, shr_below, shr-shr, shl-shr, shr_split, mod-pow-add, mul-add-lt}
use Rattle.std.proofs.Math.Nat.{mul-mod_left, mod-le, mul-pos}
use Rattle.std.proofs.lemmas.Bool.{cases_lt}
use Rattle.vx_masks.specs.Masks.{true_count, chosen_of_chosen}
use Rattle.vx_masks.specs.Words.{low_bits}
use Rattle.vx_masks.proofs.LowBits.{lowest_one, cleared_low, low_bits-add, low_bits-above, low_bits-nothing, true_count-low_bits}
use Rattle.vx_masks.proofs.Numbers.{rest_of}
use Rattle.vx_masks.proofs.Places.{true_count-cons, count_none}
use Rattle.vx_masks.proofs.Ranks.{Deposited, deposited_none, deposited_all, lowest_at}

-- so many rows are done, and the rest has the set bits of the others in their places
pub record Walked (word ranks result rest left : ℕ) : Type 0 where
  pub done : ℕ
  pub later : ℕ
  pub rest_is : rest ≡ later * 2 ^ done
  pub at : Deposited word ranks result done later left

pub walked_none : (word ranks : ℕ) → word < 2 ^ 64 → ranks < 2 ^ ones word → Walked word ranks 0 word ranks
walked_none word ranks h l = record { done = 0; later = word; rest_is = omega arith; at = deposited_none word ranks h l }

pub walked_all : (word ranks result rest left : ℕ) → left ≡ 0 → Walked word ranks result rest left → low_bits 64 result ≡ chosen_of_chosen (low_bits 64 word) (low_bits (ones word) ranks)
walked_all word ranks result rest left e h = deposited_all word ranks result h.done h.later left e h.at

-- one rank
rank_of_one : (p : ℕ) (xs : List Bool) (y : Bool) (ys : List Bool) → chosen_of_chosen (replicate p false ++ true ∷ xs) (y ∷ ys) ≡ replicate p false ++ y ∷ chosen_of_chosen xs ys
rank_of_one zero xs y ys = refl
rank_of_one (suc p) xs y ys = ap (λ (bs : List Bool). false ∷ bs) (rank_of_one p xs y ys)

pub low_bits-single : (b : ℕ) → b < 2 → low_bits 1 b ≡ (b == 1) ∷ []
unfolding low_bits
low_bits-single b h = let e : b % 2 ≡ b = omega arith in ap (λ (x : ℕ). (x == 1) ∷ []) e

pub low_bits-next : (k n : ℕ) → low_bits (suc k) n ≡ (n % 2 == 1) ∷ low_bits k (n / 2)
unfolding low_bits
low_bits-next k n = refl

one_row : (p b : ℕ) → b < 2 → low_bits (p + 1) (2 ^ p * b) ≡ replicate p false ++ (b == 1) ∷ []
one_row p b h =
    let alone : 2 ^ p * b ≡ 0 + 2 ^ p * b = omega arith in
    let up : (0 + 2 ^ p * b) / 2 ^ p ≡ b = rest_of p 0 b (pow_pos p) in
    ap (low_bits (p + 1)) alone ∙ low_bits-add p 1 (0 + 2 ^ p * b)
    ∙ (λ j. (low_bits-above p 0 b ∙ low_bits-nothing p) j ++ (ap (low_bits 1) up ∙ low_bits-single b h) j)

pub ones_nothing : ones 0 ≡ 0
unfolding ones ones_in
ones_nothing = refl

some_later : (later left : ℕ) → 0 < left → left < 2 ^ ones later → 0 < later
some_later zero left some h = absurd (omega (arith, ap (λ (k : ℕ). 2 ^ k) ones_nothing))
some_later (suc n) left some h = omega arith

one_inside : (r later p : ℕ) → later % 2 ^ suc p ≡ 2 ^ p → later < 2 ^ r → p < r
one_inside r later p low h = elim (cases_lt p r) [ inl lt ↦ lt | inr past ↦ absurd (omega (arith, low, mod-le later (2 ^ suc p), pow_mono past)) ]

deposited_bit : (word ranks result done later left p : ℕ) → later % 2 ^ suc p ≡ 2 ^ p → Deposited word ranks result done later left
    → Deposited word ranks (result + 2 ^ (done + p) * (left % 2)) (done + suc p) (later / 2 ^ suc p) (left / 2)
deposited_bit word ranks result done later left p low h =
    let r = 64 - done in
    let b = left % 2 in
    let xs = low_bits r later in
    let lt = one_inside r later p low h.rest_small in
    let r_after = r - suc p in
    let after = later / 2 ^ suc p in
    let cut : r ≡ r_after + suc p = omega arith in
    let less : after < 2 ^ r_after = shr_below later r_after (suc p) (subst (λ (j : ℕ). later < 2 ^ j) cut h.rest_small) in
    let ys = low_bits r_after after in
    let here : xs ≡ replicate p false ++ true ∷ ys = lowest_at r later p low lt in
    let fewer : ones later ≡ suc (ones after) =
    sym (true_count-low_bits r later h.rest_small) ∙ ap true_count here ∙ count_none p (true ∷ ys) ∙ omega (arith, true_count-cons true ys, true_count-low_bits r_after after less) in
    let zs = low_bits (ones after) (left / 2) in
    let ranked : low_bits (ones later) left ≡ (b == 1) ∷ zs = ap (λ (j : ℕ). low_bits j left) fewer ∙ low_bits-next (ones after) left in
    let rest = chosen_of_chosen ys zs in
    let split : chosen_of_chosen xs (low_bits (ones later) left) ≡ replicate p false ++ (b == 1) ∷ rest = ap₂ chosen_of_chosen here ranked ∙ rank_of_one p ys (b == 1) zs in
    let next : suc p ≡ p + 1 = omega arith in
    let more : result + 2 ^ (done + p) * b ≡ result + 2 ^ done * (2 ^ p * b) = ap (λ (x : ℕ). result + x) (ap (λ (x : ℕ). x * b) (pow-add 2 done p) ∙ mul_assoc (2 ^ done) (2 ^ p) b) in
    let front : low_bits (done + suc p) (result + 2 ^ (done + p) * b) ≡ low_bits done result ++ (replicate p false ++ (b == 1) ∷ []) =
    ap (low_bits (done + suc p)) more ∙ low_bits-add done (suc p) (result + 2 ^ done * (2 ^ p * b))
    ∙ (λ j. low_bits-above done result (2 ^ p * b) j ++ (ap (low_bits (suc p)) (rest_of done result (2 ^ p * b) h.small) ∙ ap (λ (i : ℕ). low_bits i (2 ^ p * b)) next ∙ one_row p b (omega arith)) j) in
    let r_same : 64 - (done + suc p) ≡ r_after = omega arith in
    let wide : done ≤ done + p = omega arith in
    let twice : done + suc p ≡ suc (done + p) = omega arith in
    let below : result < 2 ^ (done + p) = omega (arith, h.small, pow_mono wide) in
    record {
      few = omega arith;
      small = omega (arith, mul-add-lt b (2 ^ (done + p)) result 2 (omega arith) below, mul_comm (2 ^ (done + p)) b, ap (λ (j : ℕ). 2 ^ j) twice);
      rest_small = subst (λ (j : ℕ). after < 2 ^ j) (sym r_same) less;
      left_small = omega (arith, h.left_small, ap (λ (j : ℕ). 2 ^ j) fewer);
      same = (λ j. front j ++ chosen_of_chosen (low_bits (r_same j) after) zs)
          ∙ append_assoc (low_bits done result) (replicate p false ++ (b == 1) ∷ []) rest
          ∙ ap (λ (bs : List Bool). low_bits done result ++ bs) (append_assoc (replicate p false) ((b == 1) ∷ []) rest ∙ sym split)
          ∙ h.same;
    }

pub walked_some : (word ranks result rest left : ℕ) → 0 < left → Walked word ranks result rest left → 0 < rest
walked_some word ranks result rest left some h =
    omega (arith, h.rest_is, mul-pos (some_later h.later left some h.at.left_small) (pow_pos h.done))

pub walked_more : (word ranks result rest left : ℕ) → 0 < left → Walked word ranks result rest left
    → Walked word ranks (result + (rest - bit_and rest (rest - 1)) * (left % 2)) (bit_and rest (rest - 1)) (left / 2)
walked_more word ranks result rest left some h =
    let done = h.done in
    let later = h.later in
    let narrow : 64 - done ≤ 64 = omega arith in
    let fits : later < 2 ^ 64 = omega (arith, h.at.rest_small, pow_mono narrow) in
    let lowest = lowest_one 64 later (some_later later left some h.at.left_small) fits in
    let p = count_trailing_zeros 64 later in
    let all = done + p in
    let turned : suc p + done ≡ suc all = omega arith in
    let summed : p + done ≡ all = omega arith in
    let up : rest / 2 ^ done ≡ later = ap (λ (x : ℕ). x / 2 ^ done) h.rest_is ∙ shl-shr later done in
    let none : rest % 2 ^ done ≡ 0 = ap (λ (x : ℕ). x % 2 ^ done) h.rest_is ∙ mul-mod_left later (2 ^ done) in
    let low : rest % 2 ^ suc all ≡ 2 ^ all =
    ap (λ (k : ℕ). rest % 2 ^ k) (sym turned) ∙ mod-pow-add rest (suc p) done
    ∙ (λ j. (ap (λ (x : ℕ). x % 2 ^ suc p) up ∙ lowest.1.low) j * 2 ^ done + none j)
    ∙ omega (arith, pow-add 2 p done, ap (λ (k : ℕ). 2 ^ k) summed) in
    let place : done + suc p ≡ suc all = omega arith in
    let higher : rest / 2 ^ suc all ≡ later / 2 ^ suc p = ap (λ (k : ℕ). rest / 2 ^ k) (sym place) ∙ sym (shr-shr rest done (suc p)) ∙ ap (λ (x : ℕ). x / 2 ^ suc p) up in
    let cleared = cleared_low rest all low in
    let bit : rest - bit_and rest (rest - 1) ≡ 2 ^ all = omega (arith, cleared, shr_split rest (suc all), low) in
    record {
      done = done + suc p;
      later = later / 2 ^ suc p;
      rest_is = cleared ∙ (λ j. higher j * 2 ^ sym place j);
      at = subst (λ (x : ℕ). Deposited word ranks (result + x * (left % 2)) (done + suc p) (later / 2 ^ suc p) (left / 2)) (sym bit) (deposited_bit word ranks result done later left p lowest.1.low h.at);
    }

pub walked_fits : (word ranks result rest left : ℕ) → Walked word ranks result rest left → result < 2 ^ 64
walked_fits word ranks result rest left h = omega (arith, h.at.small, pow_mono h.at.few)
