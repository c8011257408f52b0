-- The first and the last true row, and masks that are all true or all false, by their words.
use Rattle.std.proofs.Common.{inl, inr, ◌≡◌, ◌↔◌, ℕ, zero, suc, ◌+◌, ◌-◌, ◌*◌, ◌/◌, ◌%◌, ◌^◌, ◌<◌, ◌≤◌, Bool, true, false, eqb, IsTrue, List, [], ◌∷◌, length, get_or, Some, refl, sym, ap, subst, ◌∙◌, arith, eqb-true, eq-eqb, w64}
use Rattle.std.specs.Prelude.{slice_get, ◌==◌}
use Rattle.std.specs.List.{All}
use Rattle.std.specs.Int.{bit_at}
use lib.Count.{count_trailing_zeros, count_leading_zeros}
use Rattle.std.proofs.lemmas.Bool.{cases_lt}
use Rattle.std.proofs.lemmas.List.Sums.{count_by-le-length}
use Rattle.std.proofs.lemmas.Nat.{pow_pos, shr_split, mod_below}
use Rattle.std.proofs.lemmas.Nat.Bits.{bit_at-zero, bit_at_above, bit_at-trailing_zeros}
use Rattle.vx_masks.specs.Masks.{true_count, IsFirstTrue, IsLastTrue}
use Rattle.vx_masks.proofs.LowBits.{HighestOne, highest_one}
use Rattle.vx_masks.proofs.Places.{true_count-cons}

-- what the words say of the rows
pub record RowsIn (mask : List Bool) (ws : List ℕ) : Type 0 where
  pub rows : (row : ℕ) → row < length mask → slice_get mask row ≡ Some (bit_at (get_or ws (row / 64) 0) (row % 64) == 1)
  pub past : (row : ℕ) → length mask ≤ row → bit_at (get_or ws (row / 64) 0) (row % 64) ≡ 0

row_has : (mask : List Bool) (ws : List ℕ) (row bit : ℕ) → RowsIn mask ws → row < length mask → bit_at (get_or ws (row / 64) 0) (row % 64) ≡ bit → slice_get mask row ≡ Some (bit == 1)
row_has mask ws row bit h lt e = h.rows row lt ∙ ap (λ (b : ℕ). Some (b == 1)) e

set_inside : (mask : List Bool) (ws : List ℕ) (row : ℕ) → RowsIn mask ws → bit_at (get_or ws (row / 64) 0) (row % 64) ≡ 1 → row < length mask
set_inside mask ws row h e = elim (cases_lt row (length mask)) [ inl lt ↦ lt | inr past ↦ absurd (omega (arith, h.past row past)) ]

-- the words from one on to another are 0
pub record Zeros (ws : List ℕ) (from to : ℕ) : Type 0 where
  pub zero_at : (k : ℕ) → from ≤ k → k < to → get_or ws k 0 ≡ 0

none_in : (mask : List Bool) (ws : List ℕ) (from to : ℕ) → RowsIn mask ws → Zeros ws from to → (row : ℕ) → 64 * from ≤ row → row < 64 * to → row < length mask → slice_get mask row ≡ Some false
none_in mask ws from to h z row low high lt =
    row_has mask ws row 0 h lt (ap (λ (w : ℕ). bit_at w (row % 64)) (z.zero_at (row / 64) (omega arith) (omega arith)) ∙ bit_at-zero (row % 64))

module _ (mask : List Bool) (ws : List ℕ) (i t word : ℕ) (h : RowsIn mask ws) (is : word ≡ get_or ws i 0) (small : t < 64) where
  at_place : bit_at word t ≡ 1 → bit_at (get_or ws ((64 * i + t) / 64) 0) ((64 * i + t) % 64) ≡ 1
  at_place set =
      let index : i ≡ (64 * i + t) / 64 = omega arith in
      let shift : t ≡ (64 * i + t) % 64 = omega arith in
      sym (λ j. bit_at ((is ∙ ap (λ (k : ℕ). get_or ws k 0) index) j) (shift j)) ∙ set

  here : bit_at word t ≡ 1 → slice_get mask (64 * i + t) ≡ Some true
  here set = row_has mask ws (64 * i + t) 1 h (set_inside mask ws (64 * i + t) h (at_place set)) (at_place set)

  inside : bit_at word t ≡ 1 → 64 * i + t < length mask
  inside set = set_inside mask ws (64 * i + t) h (at_place set)

  in_word : (row : ℕ) → row / 64 ≡ i → bit_at word (row % 64) ≡ 0 → bit_at (get_or ws (row / 64) 0) (row % 64) ≡ 0
  in_word row e none = ap (λ (k : ℕ). bit_at (get_or ws k 0) (row % 64)) e ∙ ap (λ (w : ℕ). bit_at w (row % 64)) (sym is) ∙ none

pub first_row : (mask : List Bool) (ws : List ℕ) (i word : ℕ) → RowsIn mask ws → word ≡ get_or ws i 0 → 0 < word → word < 2 ^ 64 → Zeros ws 0 i → IsFirstTrue mask (64 * i + count_trailing_zeros 64 word)
first_row mask ws i word h is some small z =
    let lowest = bit_at-trailing_zeros w64 word some small in
    let t = count_trailing_zeros 64 word in
    let lt = inside mask ws i t word h is lowest.0 lowest.1 in
    record {
      here = here mask ws i t word h is lowest.0 lowest.1;
      before = λ row low high. elim (cases_lt row (64 * i)) [
        | inl early ↦ none_in mask ws 0 i h z row low early (omega arith)
        | inr late ↦ row_has mask ws row 0 h (omega arith) (in_word mask ws i t word h is lowest.0 row (omega arith) (lowest.2 (row % 64) (omega arith)))
      ];
    }

top_bit : (word j : ℕ) → word / 2 ^ j ≡ 1 → bit_at word j ≡ 1
top_bit word j e = ap (λ (x : ℕ). x % 2) e

top_small : (word j : ℕ) → HighestOne 64 word j → word < 2 ^ suc j
top_small word j h = omega (arith, shr_split word j, mod_below word (2 ^ j) (pow_pos j), ap (λ (x : ℕ). x * 2 ^ j) h.top)

pub last_row : (mask : List Bool) (ws : List ℕ) (i word : ℕ) → RowsIn mask ws → word ≡ get_or ws i 0 → 0 < word → word < 2 ^ 64 → Zeros ws (i + 1) (length ws) → length mask ≤ 64 * length ws
    → IsLastTrue mask (64 * i + (63 - count_leading_zeros 64 word))
last_row mask ws i word h is some small z past =
    let highest = highest_one 64 word some small in
    let j = highest.0 in
    let place : 63 - count_leading_zeros 64 word ≡ j = omega (arith, highest.1.count) in
    let lt : j < 64 = omega (arith, highest.1.count) in
    let set = top_bit word j highest.1.top in
    subst (λ (k : ℕ). IsLastTrue mask (64 * i + k)) (sym place) (record {
      here = here mask ws i j word h is lt set;
      after = λ row low high. elim (cases_lt row (64 * (i + 1))) [
        | inl early ↦ row_has mask ws row 0 h high (in_word mask ws i j word h is lt row (omega arith) (bit_at_above word (suc j) (row % 64) (top_small word j highest.1) (omega arith)))
        | inr late ↦ none_in mask ws (i + 1) (length ws) h z row late (omega arith) high
      ];
    })

-- ---- all true, all false
full_all : (bs : List Bool) → true_count bs ≡ length bs → All (λ b. b ≡ true) bs
full_all [] e k d lt = absurd (omega arith)
full_all (true ∷ bs) e zero d lt = refl
full_all (true ∷ bs) e (suc k) d lt = full_all bs (omega (arith, true_count-cons true bs)) k d (omega arith)
full_all (false ∷ bs) e k d lt = absurd (omega (arith, true_count-cons false bs, count_by-le-length (λ (b : Bool). b) bs))

all_full : (bs : List Bool) → All (λ b. b ≡ true) bs → true_count bs ≡ length bs
all_full [] h = refl
all_full (true ∷ bs) h = omega (arith, true_count-cons true bs, all_full bs (λ k d lt. h (suc k) d (omega arith)))
all_full (false ∷ bs) h = let e : false ≡ true = h 0 false (omega arith) in cc

empty_all : (bs : List Bool) → true_count bs ≡ 0 → All (λ b. b ≡ false) bs
empty_all [] e k d lt = absurd (omega arith)
empty_all (false ∷ bs) e zero d lt = refl
empty_all (false ∷ bs) e (suc k) d lt = empty_all bs (omega (arith, true_count-cons false bs)) k d (omega arith)
empty_all (true ∷ bs) e k d lt = absurd (omega (arith, true_count-cons true bs))

all_empty : (bs : List Bool) → All (λ b. b ≡ false) bs → true_count bs ≡ 0
all_empty [] h = refl
all_empty (false ∷ bs) h = omega (arith, true_count-cons false bs, all_empty bs (λ k d lt. h (suc k) d (omega arith)))
all_empty (true ∷ bs) h = let e : true ≡ false = h 0 false (omega arith) in cc

pub is_full : (bs : List Bool) (count len : ℕ) → count ≡ true_count bs → len ≡ length bs → IsTrue (eqb count len) ↔ All (λ b. b ≡ true) bs
is_full bs count len c l = (λ t. full_all bs (sym c ∙ eqb-true count len t ∙ l), λ h. eq-eqb count len (c ∙ all_full bs h ∙ sym l))

pub is_empty : (bs : List Bool) (count : ℕ) → count ≡ true_count bs → IsTrue (eqb count 0) ↔ All (λ b. b ≡ false) bs
is_empty bs count c = (λ t. empty_all bs (sym c ∙ eqb-true count 0 t), λ h. eq-eqb count 0 (c ∙ all_empty bs h))
