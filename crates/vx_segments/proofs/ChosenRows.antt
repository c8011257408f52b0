-- Rows that a mask chooses lie between two places, outside of which it chooses none.
use Rattle.std.proofs.Common.{inl, inr, ◌≡◌, ℕ, zero, suc, ◌+◌, ◌-◌, ◌≤◌, Bool, true, false, List, [], ◌∷◌, length, take, drop, Option, Some, refl, sym, ap, ◌∙◌, arith}
use Rattle.std.specs.Prelude.{slice_get, option_map}
use Rattle.std.specs.List.{slice_range}
use Rattle.std.proofs.lemmas.Bool.{cases_lt}
use Rattle.std.proofs.lemmas.List.{length-drop}
use Rattle.std.proofs.lemmas.Option.{slice_get_within}
use Rattle.vx_masks.specs.Masks.{chosen, NoneTrue}
use Rattle.vx_types.specs.Data.{DataType, Datum}
use Rattle.vx_types.specs.Leaf.{IsLeaf}
use Rattle.vx_segments.specs.declared.codings.Coding.{Coding}
use Rattle.vx_segments.specs.RowsRead.{chosen_decoded, rows_decoded, SpellsChosen, SpellsRows}
use Rattle.vx_segments.proofs.CodedRows.{coded_count}
use Rattle.vx_segments.proofs.CodingsRead.{spelled_codings_are_read}
use Rattle.vx_segments.proofs.RangeRows.{range_len, range_of_range}

none_chosen : {X : Type 0} (bits : List Bool) (xs : List X) → NoneTrue bits 0 (length bits) → chosen bits xs ≡ []
none_chosen [] xs h = refl
none_chosen (true ∷ bits) xs h = absurd (not_true (h 0 (omega arith) (omega arith)))
  where
    not_true : Some true ≡ Some false → ⊥
    not_true e = absurd cc
none_chosen (false ∷ bits) [] h = refl
none_chosen (false ∷ bits) (x ∷ xs) h = none_chosen bits xs (λ row low lt. h (suc row) (omega arith) (omega arith))

front_chosen : {X : Type 0} (bits : List Bool) (xs : List X) (n : ℕ) → length xs ≡ length bits → NoneTrue bits 0 n → chosen bits xs ≡ chosen (drop n bits) (drop n xs)
front_chosen bits xs zero len h = refl
front_chosen [] xs (suc n) len h = refl
front_chosen (true ∷ bits) xs (suc n) len h = absurd (not_true (h 0 (omega arith) (omega arith)))
  where
    not_true : Some true ≡ Some false → ⊥
    not_true e = absurd cc
front_chosen (false ∷ bits) [] (suc n) len h = absurd (omega arith)
front_chosen (false ∷ bits) (x ∷ xs) (suc n) len h = front_chosen bits xs n (omega arith) (λ row low lt. h (suc row) (omega arith) (omega arith))

back_chosen : {X : Type 0} (bits : List Bool) (xs : List X) (n : ℕ) → length xs ≡ length bits → NoneTrue bits n (length bits) → chosen bits xs ≡ chosen (take n bits) (take n xs)
back_chosen bits xs zero len h = none_chosen bits xs h
back_chosen [] xs (suc n) len h = refl
back_chosen (true ∷ bits) [] (suc n) len h = absurd (omega arith)
back_chosen (false ∷ bits) [] (suc n) len h = absurd (omega arith)
back_chosen {X} (true ∷ bits) (x ∷ xs) (suc n) len h = ap (λ (ys : List X). x ∷ ys) (back_chosen bits xs n (omega arith) (λ row low lt. h (suc row) (omega arith) (omega arith)))
back_chosen (false ∷ bits) (x ∷ xs) (suc n) len h = back_chosen bits xs n (omega arith) (λ row low lt. h (suc row) (omega arith) (omega arith))

none_behind : (bits : List Bool) (n m : ℕ) → n ≤ m → NoneTrue bits m (length bits) → NoneTrue (drop n bits) (m - n) (length (drop n bits))
none_behind bits zero m le h = λ row low lt. h row (omega arith) lt
none_behind [] (suc n) m le h = λ row low lt. absurd (omega arith)
none_behind (bit ∷ bits) (suc n) zero le h = absurd (omega arith)
none_behind (bit ∷ bits) (suc n) (suc m) le h = λ row low lt. none_behind bits n m (omega arith) (λ place from to. h (suc place) (omega arith) (omega arith)) row (omega arith) lt

pub between_chosen : {X : Type 0} (bits : List Bool) (xs : List X) (from to : ℕ) → length xs ≡ length bits → from ≤ to → NoneTrue bits 0 from → NoneTrue bits to (length bits) → chosen bits xs ≡ chosen (slice_range bits from to) (slice_range xs from to)
between_chosen bits xs from to len low front back =
    front_chosen bits xs from len front ∙ back_chosen (drop from bits) (drop from xs) (to - from) (omega (arith, length-drop from xs, length-drop from bits, len)) (none_behind bits from to low back)

pub first_last : (bits : List Bool) (first last : ℕ) → NoneTrue bits 0 first → slice_get bits last ≡ Some true → first ≤ last
first_last bits first last none here = elim (cases_lt last first) [
  | inl lt ↦ absurd (not_both (none last (omega arith) lt))
  | inr past ↦ past
]
  where
    not_both : slice_get bits last ≡ Some false → ⊥
    not_both e = absurd cc

pub last_inside : (bits : List Bool) (last : ℕ) → slice_get bits last ≡ Some true → last + 1 ≤ length bits
last_inside bits last here = omega (arith, slice_get_within bits last true here)

-- ---- rows of a segment
pub chosen_spelled : (coding : Coding) (t : DataType) (rows start end a b : ℕ) (bytes : List ℕ) (bits : List Bool) (read made : List Datum) → start ≤ end → end ≤ rows → length bits ≡ end - start → a ≤ b → b ≤ length bits → NoneTrue bits 0 a → NoneTrue bits b (length bits)
    → (s : SpellsRows coding t rows bytes (start + a) (start + b) read) → length s.all ≡ rows → made ≡ chosen (slice_range bits a b) read → SpellsChosen coding t rows bytes start end bits made
chosen_spelled coding t rows start end a b bytes bits read made low high count forwards inside front back s len is =
    let some = slice_range s.all start end in
    let same_len : length some ≡ length bits = range_len s.all start end low (omega (arith, len, high)) ∙ sym count in
    let part : slice_range some a b ≡ read = range_of_range s.all start end a b (omega (arith, inside, count)) ∙ sym s.picked in
    record {
      all = s.all;
      spelled = s.spelled;
      picked = is ∙ ap (chosen (slice_range bits a b)) (sym part) ∙ sym (between_chosen bits some a b same_len forwards front back);
    }

abbrev some_values : List Datum → Option (List Datum)
some_values values = Some values

pub chosen_read : (coding : Coding) (t : DataType) (rows from to : ℕ) (bytes : List ℕ) (bits : List Bool) (values : List Datum) → IsLeaf t → SpellsChosen coding t rows bytes from to bits values → chosen_decoded coding t rows bytes from to bits ≡ Some values
chosen_read coding t rows from to bytes bits values l s =
    ap (option_map (λ (vs : List Datum). chosen bits (slice_range vs from to))) (spelled_codings_are_read coding t l rows bytes s.all s.spelled) ∙ ap some_values (sym s.picked)

pub rows_read : (coding : Coding) (t : DataType) (rows from to : ℕ) (bytes : List ℕ) (values : List Datum) → IsLeaf t → SpellsRows coding t rows bytes from to values → rows_decoded coding t rows bytes from to ≡ Some values
rows_read coding t rows from to bytes values l s =
    ap (option_map (λ (vs : List Datum). slice_range vs from to)) (spelled_codings_are_read coding t l rows bytes s.all s.spelled) ∙ ap some_values (sym s.picked)

-- as many rows as the range has
pub rows_count : (coding : Coding) (t : DataType) (rows start width a b : ℕ) (bytes : List ℕ) (read : List Datum) → a ≤ b → b ≤ width → start + width ≤ rows → SpellsRows coding t rows bytes (start + a) (start + b) read → length read ≡ b - a
rows_count coding t rows start width a b bytes read low high inside s =
    let count : length s.all ≡ rows = coded_count coding t rows bytes s.all s.spelled in
    let size : (start + b) - (start + a) ≡ b - a = omega arith in
    ap length s.picked ∙ range_len s.all (start + a) (start + b) (omega arith) (omega (arith, count, high, inside)) ∙ size
