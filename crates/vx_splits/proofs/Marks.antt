-- Marks at some rows of a range.
use Rattle.std.proofs.Common.{inl, inr, ◌≡◌, ℕ, ◌+◌, ◌-◌, ◌<◌, ◌≤◌, Bool, true, false, not, ◌||◌, ◌==◌, List, length, get_or, take, set, replicate, map, refl, sym, ap, ◌∙◌, arith, eq-eqb, ne_eqb, eqb, ext_get_or}
use Rattle.std.proofs.lemmas.Bool.Decides.{nat_tests}
use Rattle.std.proofs.lemmas.Bool.{cases_eq}
use Rattle.std.proofs.lemmas.List.{length-set, length-replicate, length-map, get_or-replicate, get_or-map, get_or-set_same, get_or-set_other, take_all}
use Rattle.std.proofs.lemmas.List.Folds.{list_any_more}
use Rattle.std.proofs.lemmas.List.FromFn.{length-range_with_len, get_or-range_with_len}
use Rattle.vx_base.specs.Masks.{is_among}
use Rattle.vx_splits.specs.Taken.{rows_between}
use Rattle.vx_splits.specs.Trimmed.{marked_as}

-- the marks so far of the rows from start on
pub record Marked (bits : List Bool) (rows start : ℕ) (mark : Bool) (indices : List ℕ) : Type 0 where
  pub count : length bits ≡ rows
  pub marked : (k : ℕ) → k < rows → get_or bits k false ≡ marked_as mark (is_among indices (start + k))

unmarked : (mark : Bool) → not mark ≡ marked_as mark false
unmarked true = refl
unmarked false = refl

marked_so : (mark : Bool) → mark ≡ marked_as mark true
marked_so true = refl
marked_so false = refl

or_true : (b c : Bool) → c ≡ true → (b || c) ≡ true
or_true true c e = refl
or_true false c e = e

or_false : (b c : Bool) → c ≡ false → (b || c) ≡ b
or_false true c e = refl
or_false false c e = e

pub marked_none : (bits : List Bool) (rows start : ℕ) (mark : Bool) (indices : List ℕ) → bits ≡ replicate rows (not mark) → Marked bits rows start mark (take 0 indices)
marked_none bits rows start mark indices e = record {
  count = ap length e ∙ length-replicate rows (not mark);
  marked = λ k lt. ap (λ (bs : List Bool). get_or bs k false) e ∙ get_or-replicate rows k (not mark) false lt ∙ unmarked mark;
}

pub marked_more : (bits : List Bool) (rows start : ℕ) (mark : Bool) (indices : List ℕ) (i : ℕ) → i < length indices → start ≤ get_or indices i 0 → get_or indices i 0 < start + rows
    → Marked bits rows start mark (take i indices) → Marked (set bits (get_or indices i 0 - start) mark) rows start mark (take (i + 1) indices)
marked_more bits rows start mark indices i lt from below h =
    let index = get_or indices i 0 in
    let count = h.count in
    record {
      count = length-set bits (index - start) mark ∙ count;
      marked = λ k less.
          let more = list_any_more (λ (j : ℕ). j == start + k) indices i 0 lt in
          elim (cases_eq index (start + k)) [
            | inl same ↦
                let place : index - start ≡ k = omega arith in
                let among = more ∙ or_true (is_among (take i indices) (start + k)) (index == start + k) (eq-eqb index (start + k) same) in
                ap (λ (j : ℕ). get_or (set bits j mark) k false) place ∙ get_or-set_same bits k mark false (omega arith) ∙ marked_so mark ∙ ap (marked_as mark) (sym among)
            | inr other ↦
                let among = more ∙ or_false (is_among (take i indices) (start + k)) (index == start + k) (ne_eqb index (start + k) other) in
                get_or-set_other bits (index - start) k mark false (λ e. other (omega arith)) ∙ h.marked k less ∙ ap (marked_as mark) (sym among)
          ];
    }

pub marked_all : (bits : List Bool) (start end : ℕ) (mark : Bool) (indices : List ℕ) (i : ℕ) → length indices ≤ i → Marked bits (end - start) start mark (take i indices) → bits ≡ map (λ row. marked_as mark (is_among indices row)) (rows_between start end)
marked_all bits start end mark indices i past h =
    let test = λ (row : ℕ). marked_as mark (is_among indices row) in
    let rows = rows_between start end in
    let count = h.count in
    let long : length rows ≡ end - start = length-range_with_len start (end - start) in
    ext_get_or false bits (map test rows) (count ∙ sym (length-map rows test ∙ long))
    (λ k lt. h.marked k (omega arith) ∙ ap (λ (some : List ℕ). marked_as mark (is_among some (start + k))) (take_all i indices past) ∙ sym (get_or-map test rows k 0 false (omega arith) ∙ ap test (get_or-range_with_len start (end - start) k 0 (omega arith))))

-- where no row is left out, each is marked
pub all_marked : (start end : ℕ) (mark : Bool) (indices : List ℕ) (told : Bool) → told ≡ eqb (length indices) 0 → told ≡ true → mark ≡ false
    → replicate (end - start) true ≡ map (λ row. marked_as mark (is_among indices row)) (rows_between start end)
all_marked start end mark indices told is none off =
    let bits = replicate (end - start) true in
    let test : eqb (length indices) 0 ≡ true = sym is ∙ none in
    let z : length indices ≡ 0 = grind (arith, nat_tests) in
    rw off (marked_all bits start end false indices 0 (omega (arith, z)) (marked_none bits (end - start) start false indices refl))
