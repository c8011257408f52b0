-- A mask that is marked row by row.
use Rattle.std.proofs.Common.{inl, inr, ◌≡◌, ℕ, zero, suc, ◌+◌, ◌*◌, ◌/◌, ◌%◌, ◌^◌, ◌<◌, max, Bool, true, false, ◌||◌, List, [], ◌∷◌, length, take, get_or, set, replicate, Some, refl, sym, ap, ap₂, subst, ◌∙◌, arith, eq-eqb, ne_eqb}
use Rattle.std.specs.Prelude.{slice_get, ◌==◌}
use Rattle.std.specs.Int.{bit_at}
use lib.Bits.{bit_or}
use Rattle.std.proofs.Math.Nat.{mul_comm}
use Rattle.std.proofs.lemmas.Bool.{cases_eq}
use Rattle.std.proofs.lemmas.List.{length-set, length-replicate, get_or-set_same, get_or-set_other, take_more}
use Rattle.std.proofs.lemmas.List.Folds.{list_any-append}
use Rattle.std.proofs.lemmas.Nat.{pow_pos, pow-add, or_block, or_comm, or_lt, pow_below, one_shl}
use Rattle.std.proofs.lemmas.Nat.Bits.{bit_at_or, bit_at-pow_same, bit_at-pow_other, bit_at-zero, bit_at-lt}
use Rattle.vx_masks.specs.Masks.{is_among}
use Rattle.vx_masks.specs.Words.{low_bits, number_of, words_for, Small}
use Rattle.vx_masks.proofs.Numbers.{small_tail}
use Rattle.vx_masks.proofs.Built.{row_is, number_of-zeros}

-- the rows marked so far
pub record Marks (len : ℕ) (indices : List ℕ) (ws : List ℕ) : Type 0 where
  pub count : length ws ≡ words_for len
  pub each : Small 64 ws
  pub small : number_of ws < 2 ^ len
  pub marked : (row : ℕ) → (bit_at (number_of ws) row == 1) ≡ is_among indices row

-- ---- one bit more
or_nothing : (n : ℕ) → bit_or n 0 ≡ n
or_nothing n = or_comm n 0

above_word : (x n : ℕ) → x + 2 ^ 64 * n ≡ n * 2 ^ 64 + x
above_word x n = omega (arith, mul_comm (2 ^ 64) n)

number_of-mark : (q s : ℕ) (ws : List ℕ) → Small 64 ws → q < length ws → s < 64 → number_of (set ws q (bit_or (get_or ws q 0) (2 ^ s))) ≡ bit_or (number_of ws) (2 ^ (64 * q + s))
number_of-mark q s [] h lt small = absurd (omega arith)
number_of-mark zero s (x ∷ ws) h lt small =
    let n = number_of ws in
    let place : s ≡ 64 * 0 + s = omega arith in
    let bit : 2 ^ s ≡ 0 * 2 ^ 64 + 2 ^ s = omega arith in
    above_word (bit_or x (2 ^ s)) n
    ∙ ap (λ (k : ℕ). k * 2 ^ 64 + bit_or x (2 ^ s)) (sym (or_nothing n))
    ∙ sym (or_block 64 n 0 x (2 ^ s) (h.small 0) (pow_below s 64 small))
    ∙ ap₂ bit_or (sym (above_word x n)) (sym bit)
    ∙ ap (λ (k : ℕ). bit_or (x + 2 ^ 64 * n) (2 ^ k)) place
number_of-mark (suc q) s (x ∷ ws) h lt small =
    let n = number_of ws in
    let m = 2 ^ (64 * q + s) in
    let e : (64 * q + s) + 64 ≡ 64 * suc q + s = omega arith in
    let bit : m * 2 ^ 64 + 0 ≡ 2 ^ (64 * suc q + s) = omega (arith, pow-add 2 (64 * q + s) 64, ap (λ (k : ℕ). 2 ^ k) e) in
    ap (λ (k : ℕ). x + 2 ^ 64 * k) (number_of-mark q s ws (small_tail 64 x ws h) (omega arith) small)
    ∙ above_word x (bit_or n m)
    ∙ ap (λ (k : ℕ). bit_or n m * 2 ^ 64 + k) (sym (or_nothing x))
    ∙ sym (or_block 64 n m x 0 (h.small 0) (pow_pos 64))
    ∙ ap₂ bit_or (sym (above_word x n)) bit

-- ---- membership
or_true : (b : Bool) → (b || true) ≡ true
or_true true = refl
or_true false = refl

or_false : (b : Bool) → (b || false) ≡ b
or_false true = refl
or_false false = refl

among_more : (indices : List ℕ) (i row : ℕ) → i < length indices → is_among (take (i + 1) indices) row ≡ (is_among (take i indices) row || (get_or indices i 0 == row))
among_more indices i row lt =
    rw (take_more indices i 0 lt, list_any-append (λ (index : ℕ). index == row) (take i indices) (get_or indices i 0 ∷ [])) (ap (λ (b : Bool). is_among (take i indices) row || b) (or_false (get_or indices i 0 == row)))

bit_or_one : (b : ℕ) → b < 2 → (max b 1 == 1) ≡ true
bit_or_one zero h = refl
bit_or_one (suc zero) h = refl
bit_or_one (suc (suc b)) h = absurd (omega arith)

bit_or_zero : (b : ℕ) → b < 2 → (max b 0 == 1) ≡ (b == 1)
bit_or_zero zero h = refl
bit_or_zero (suc zero) h = refl
bit_or_zero (suc (suc b)) h = absurd (omega arith)

marked_more : (n index row : ℕ) → (bit_at (bit_or n (2 ^ index)) row == 1) ≡ ((bit_at n row == 1) || (index == row))
marked_more n index row =
    ap (λ (b : ℕ). b == 1) (bit_at_or n (2 ^ index) row)
    ∙ elim (cases_eq row index) [
      | inl same ↦
          ap (λ (b : ℕ). max (bit_at n row) b == 1) (ap (bit_at (2 ^ index)) same ∙ bit_at-pow_same index)
          ∙ bit_or_one (bit_at n row) (bit_at-lt n row)
          ∙ sym (ap (λ (b : Bool). (bit_at n row == 1) || b) (eq-eqb index row (sym same)) ∙ or_true (bit_at n row == 1))
      | inr other ↦
          ap (λ (b : ℕ). max (bit_at n row) b == 1) (bit_at-pow_other index row other)
          ∙ bit_or_zero (bit_at n row) (bit_at-lt n row)
          ∙ sym (ap (λ (b : Bool). (bit_at n row == 1) || b) (ne_eqb index row (λ e. other (sym e))) ∙ or_false (bit_at n row == 1))
    ]

-- ---- the loop
zero_in : (k i : ℕ) → let zeros : List ℕ = replicate k 0 in get_or zeros i 0 ≡ 0
zero_in zero i = refl
zero_in (suc k) zero = refl
zero_in (suc k) (suc i) = zero_in k i

pub marks_none : (len k : ℕ) (ws : List ℕ) → k ≡ words_for len → ws ≡ replicate k 0 → Marks len [] ws
marks_none len k ws e is =
    let none : number_of ws ≡ 0 = ap number_of is ∙ number_of-zeros k in
    record {
      count = ap length is ∙ length-replicate k 0 ∙ e;
      each = record { small = λ i. omega (arith, ap (λ (l : List ℕ). get_or l i 0) is, zero_in k i) };
      small = omega (arith, none, pow_pos len);
      marked = λ row. ap (λ (n : ℕ). bit_at n row == 1) none ∙ ap (λ (b : ℕ). b == 1) (bit_at-zero row);
    }

small_set : (q v : ℕ) (ws : List ℕ) → Small 64 ws → q < length ws → v < 2 ^ 64 → Small 64 (set ws q v)
small_set q v ws h lt small = record {
  small = λ i. elim (cases_eq i q) [
    | inl same ↦ omega (arith, ap (λ (k : ℕ). get_or (set ws q v) k 0) same, get_or-set_same ws q v 0 lt)
    | inr other ↦ omega (arith, get_or-set_other ws q i v 0 other, h.small i)
  ];
}

pub marks_more : (len i : ℕ) (indices ws : List ℕ) → i < length indices → get_or indices i 0 < len → Marks len (take i indices) ws
    → Marks len (take (i + 1) indices) (set ws (get_or indices i 0 / 64) (bit_or (get_or ws (get_or indices i 0 / 64) 0) (1 * 2 ^ (get_or indices i 0 % 64) % 2 ^ 64)))
marks_more len i indices ws lt below h =
    let index = get_or indices i 0 in
    let q = index / 64 in
    let s = index % 64 in
    let word = get_or ws q 0 in
    let inside : q < length ws = omega (arith, h.count) in
    let small : s < 64 = omega arith in
    let place : 64 * q + s ≡ index = omega arith in
    let bit : 1 * 2 ^ s % 2 ^ 64 ≡ 2 ^ s = one_shl s 64 small in
    let new = set ws q (bit_or word (1 * 2 ^ s % 2 ^ 64)) in
    let number : number_of new ≡ bit_or (number_of ws) (2 ^ index) =
    ap (λ (b : ℕ). number_of (set ws q (bit_or word b))) bit ∙ number_of-mark q s ws h.each inside small ∙ ap (λ (k : ℕ). bit_or (number_of ws) (2 ^ k)) place in
    record {
      count = length-set ws q (bit_or word (1 * 2 ^ s % 2 ^ 64)) ∙ h.count;
      each = small_set q (bit_or word (1 * 2 ^ s % 2 ^ 64)) ws h.each inside (subst (λ (b : ℕ). bit_or word b < 2 ^ 64) (sym bit) (or_lt 64 word (2 ^ s) (h.each.small q) (pow_below s 64 small)));
      small = subst (λ (n : ℕ). n < 2 ^ len) (sym number) (or_lt len (number_of ws) (2 ^ index) h.small (pow_below index len below));
      marked = λ row. ap (λ (n : ℕ). bit_at n row == 1) number ∙ marked_more (number_of ws) index row ∙ ap (λ (b : Bool). b || (index == row)) (h.marked row) ∙ sym (among_more indices i row lt);
    }

pub marks_row : (len row : ℕ) (indices ws : List ℕ) → Marks len indices ws → row < len → slice_get (low_bits len (number_of ws)) row ≡ Some (is_among indices row)
marks_row len row indices ws h lt = row_is len (number_of ws) row lt ∙ ap (λ (b : Bool). Some b) (h.marked row)
