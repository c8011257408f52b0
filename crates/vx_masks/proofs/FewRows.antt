-- Masks of few rows, of which the numbers are kept.
use Rattle.std.proofs.Common.{inl, inr, ◌≡◌, ℕ, zero, suc, ◌+◌, ◌-◌, ◌<◌, ◌≤◌, Bool, true, false, ◌||◌, eqb, List, [], ◌∷◌, length, get_or, drop, Some, refl, sym, ap, subst, ◌∙◌, arith, eq-eqb, ne_eqb}
use Rattle.std.specs.Prelude.{slice_get}
use Rattle.std.specs.List.{All}
use Rattle.std.proofs.lemmas.Bool.{cases_eq, cases_lt}
use Rattle.std.proofs.lemmas.List.{drop_more}
use Rattle.vx_masks.specs.Forms.{marks_from, Within}
use Rattle.vx_masks.specs.Masks.{Ascend, is_among, true_count, NoneTrue, IsFirstTrue, IsLastTrue}
use Rattle.vx_masks.proofs.Places.{true_count-cons, false_first}

-- ---- numbers in order
-- what stands behind the numbers that were looked at is in order from the lowest on
pub within_more : (numbers : List ℕ) (i low high : ℕ) → i < length numbers → low ≤ get_or numbers i 0 → get_or numbers i 0 < high → (Within low high (drop i numbers) → Within 0 high numbers)
    → Within (get_or numbers i 0 + 1) high (drop (i + 1) numbers) → Within 0 high numbers
within_more numbers i low high lt from below so_far rest =
    so_far (subst (Within low high) (sym (drop_more numbers i 0 lt)) (from, below, rest))

pub within_done : (numbers : List ℕ) (i low high : ℕ) → length numbers ≤ i → (Within low high (drop i numbers) → Within 0 high numbers) → Within 0 high numbers
within_done numbers i low high past so_far = so_far (none numbers i low high past)
  where
    none : (numbers : List ℕ) (i low high : ℕ) → length numbers ≤ i → Within low high (drop i numbers)
    none [] zero low high past = tt
    none [] (suc i) low high past = tt
    none (number ∷ numbers) zero low high past = absurd (omega (arith, past))
    none (number ∷ numbers) (suc i) low high past = none numbers i low high (omega (arith, past))

lower : (numbers : List ℕ) (low lowest high : ℕ) → lowest ≤ low → Within low high numbers → Within lowest high numbers
lower [] low lowest high le h = tt
lower (number ∷ numbers) low lowest high le h = (omega (arith, le, h.0), h.1, h.2)

at_least : (numbers : List ℕ) (k d low high : ℕ) → k < length numbers → Within low high numbers → low ≤ get_or numbers k d
at_least [] k d low high lt h = absurd (omega (arith, lt))
at_least (number ∷ numbers) zero d low high lt h = h.0
at_least (number ∷ numbers) (suc k) d low high lt h = omega (arith, h.0, at_least numbers k d (number + 1) high (omega (arith, lt)) h.2)

below_rows : (numbers : List ℕ) (k d low high : ℕ) → k < length numbers → Within low high numbers → get_or numbers k d < high
below_rows [] k d low high lt h = absurd (omega (arith, lt))
below_rows (number ∷ numbers) zero d low high lt h = h.1
below_rows (number ∷ numbers) (suc k) d low high lt h = below_rows numbers k d (number + 1) high (omega (arith, lt)) h.2

below_next : (numbers : List ℕ) (k d low high : ℕ) → k + 1 < length numbers → Within low high numbers → get_or numbers k d < get_or numbers (k + 1) d
below_next [] k d low high lt h = absurd (omega (arith, lt))
below_next (number ∷ numbers) zero d low high lt h = omega (arith, at_least numbers 0 d (number + 1) high (omega (arith, lt)) h.2)
below_next (number ∷ numbers) (suc k) d low high lt h =
    let place : suc (k + 1) ≡ suc k + 1 = omega arith in
    subst (λ (j : ℕ). get_or numbers k d < get_or (number ∷ numbers) j d) place (below_next numbers k d (number + 1) high (omega (arith, lt)) h.2)

pub ascends : (rows : ℕ) (numbers : List ℕ) → Within 0 rows numbers → Ascend numbers
ascends rows numbers h k d lt = below_next numbers k d 0 rows lt h

pub all_below : (rows : ℕ) (numbers : List ℕ) → Within 0 rows numbers → All (λ index. index < rows) numbers
all_below rows numbers h k d lt = below_rows numbers k d 0 rows lt h

-- ---- which rows are among them
not_this : (number row : ℕ) (numbers : List ℕ) → (number ≡ row → ⊥) → is_among (number ∷ numbers) row ≡ is_among numbers row
not_this number row numbers other = ap (λ (b : Bool). b || is_among numbers row) (ne_eqb number row other)

this_one : (number row : ℕ) (numbers : List ℕ) → number ≡ row → is_among (number ∷ numbers) row ≡ true
this_one number row numbers same = ap (λ (b : Bool). b || is_among numbers row) (eq-eqb number row same)

-- a row before the lowest is none of them
before_lowest : (numbers : List ℕ) (low high row : ℕ) → row < low → Within low high numbers → is_among numbers row ≡ false
before_lowest [] low high row lt h = refl
before_lowest (number ∷ numbers) low high row lt h =
    not_this number row numbers (λ e. omega (arith, e, lt, h.0)) ∙ before_lowest numbers (number + 1) high row (omega (arith, lt, h.0)) h.2

-- a row behind the last is none of them
behind_last : (numbers : List ℕ) (low high row : ℕ) → get_or numbers (length numbers - 1) 0 < row → Within low high numbers → is_among numbers row ≡ false
behind_last [] low high row lt h = refl
behind_last (number ∷ []) low high row lt h = not_this number row [] (λ e. omega (arith, e, lt))
behind_last (number ∷ next ∷ numbers) low high row lt h =
    let last = get_or (next ∷ numbers) (length (next ∷ numbers) - 1) 0 in
    let least : number + 1 ≤ last = at_least (next ∷ numbers) (length (next ∷ numbers) - 1) 0 (number + 1) high (omega arith) h.2 in
    let same : get_or (number ∷ next ∷ numbers) (length (number ∷ next ∷ numbers) - 1) 0 ≡ last = (let place : length (number ∷ next ∷ numbers) - 1 ≡ suc (length (next ∷ numbers) - 1) = omega arith in ap (λ (k : ℕ). get_or (number ∷ next ∷ numbers) k 0) place) in
    not_this number row (next ∷ numbers) (λ e. omega (arith, e, lt, least, same)) ∙ behind_last (next ∷ numbers) (number + 1) high row (omega (arith, lt, same)) h.2

is_there : (numbers : List ℕ) (k : ℕ) → k < length numbers → is_among numbers (get_or numbers k 0) ≡ true
is_there [] k lt = absurd (omega (arith, lt))
is_there (number ∷ numbers) zero lt = this_one number number numbers refl
is_there (number ∷ numbers) (suc k) lt = elim (cases_eq number (get_or numbers k 0)) [
  | inl same ↦ this_one number (get_or numbers k 0) numbers same
  | inr other ↦ not_this number (get_or numbers k 0) numbers other ∙ is_there numbers k (omega (arith, lt))
]

-- ---- the marks, row by row
length-marks : (start count : ℕ) (numbers : List ℕ) → length (marks_from start count numbers) ≡ count
length-marks start zero numbers = refl
length-marks start (suc count) numbers = ap suc (length-marks (start + 1) count numbers)

get-marks : (start count row : ℕ) (numbers : List ℕ) → row < count → slice_get (marks_from start count numbers) row ≡ Some (is_among numbers (start + row))
get-marks start zero row numbers lt = absurd (omega (arith, lt))
get-marks start (suc count) zero numbers lt =
    let place : start ≡ start + 0 = omega arith in
    ap (λ (k : ℕ). Some (is_among numbers k)) place
get-marks start (suc count) (suc row) numbers lt =
    let place : start + 1 + row ≡ start + suc row = omega arith in
    get-marks (start + 1) count row numbers (omega (arith, lt)) ∙ ap (λ (k : ℕ). Some (is_among numbers k)) place

-- the rows from the first on
get_first : (count row : ℕ) (numbers : List ℕ) → row < count → slice_get (marks_from 0 count numbers) row ≡ Some (is_among numbers row)
get_first count row numbers lt =
    let place : 0 + row ≡ row = omega arith in
    get-marks 0 count row numbers lt ∙ ap (λ (k : ℕ). Some (is_among numbers k)) place

pub few_length : (rows : ℕ) (numbers : List ℕ) (bits : List Bool) → bits ≡ marks_from 0 rows numbers → rows ≡ length bits
few_length rows numbers bits e = sym (length-marks 0 rows numbers) ∙ ap length (sym e)

pub row_of_few : (rows row : ℕ) (numbers : List ℕ) (bits : List Bool) (told : Bool) → bits ≡ marks_from 0 rows numbers → row < length bits → told ≡ is_among numbers row → slice_get bits row ≡ Some told
row_of_few rows row numbers bits told e lt is =
    ap (λ (bs : List Bool). slice_get bs row) e ∙ get_first rows row numbers (omega (arith, lt, few_length rows numbers bits e)) ∙ ap (λ (b : Bool). Some b) (sym is)

-- rows that are true where their numbers are among these
are_marks : (start : ℕ) (bits : List Bool) (numbers : List ℕ) → ((row : ℕ) → row < length bits → slice_get bits row ≡ Some (is_among numbers (start + row))) → bits ≡ marks_from start (length bits) numbers
are_marks start [] numbers h = refl
are_marks start (bit ∷ bits) numbers h =
    let place : start + 0 ≡ start = omega arith in
    let first : Some bit ≡ Some (is_among numbers start) = h 0 (omega arith) ∙ ap (λ (k : ℕ). Some (is_among numbers k)) place in
    let here : bit ≡ is_among numbers start = cc in
    let more = are_marks (start + 1) bits numbers (λ row lt.
    let next : start + suc row ≡ start + 1 + row = omega arith in
    h (suc row) (omega (arith, lt)) ∙ ap (λ (k : ℕ). Some (is_among numbers k)) next) in
    λ i. here i ∷ more i

pub few_in_words : (rows : ℕ) (numbers : List ℕ) (words : List Bool) → length words ≡ rows → ((row : ℕ) → row < rows → slice_get words row ≡ Some (is_among numbers row)) → words ≡ marks_from 0 rows numbers
few_in_words rows numbers words len h =
    are_marks 0 words numbers (λ row lt. let place : row ≡ 0 + row = omega arith in h row (omega (arith, lt, len)) ∙ ap (λ (k : ℕ). Some (is_among numbers k)) place) ∙ ap (λ (k : ℕ). marks_from 0 k numbers) len

-- ---- the first and the last
pub some_numbers : (count : ℕ) (told : Bool) → told ≡ eqb count 0 → told ≡ false → 0 < count
some_numbers zero told e is = let wrong : true ≡ false = sym e ∙ is in absurd cc
some_numbers (suc count) told e is = omega arith

pub no_mark : (rows : ℕ) (numbers : List ℕ) → length numbers ≡ 0 → NoneTrue (marks_from 0 rows numbers) 0 (length (marks_from 0 rows numbers))
no_mark rows [] none row low high = get_first rows row [] (omega (arith, high, length-marks 0 rows []))
no_mark rows (number ∷ numbers) none row low high = absurd (omega (arith, none))

pub first_mark : (rows first : ℕ) (numbers : List ℕ) → 0 < length numbers → first ≡ get_or numbers 0 0 → Within 0 rows numbers → IsFirstTrue (marks_from 0 rows numbers) first
first_mark rows first [] some is h = absurd (omega (arith, some))
first_mark rows first (number ∷ numbers) some is h = record {
  here = get_first rows first (number ∷ numbers) (omega (arith, is, h.1)) ∙ ap (λ (b : Bool). Some b) (this_one number first numbers (sym is));
  before = λ row low high. get_first rows row (number ∷ numbers) (omega (arith, high, is, h.1)) ∙ ap (λ (b : Bool). Some b) (before_lowest (number ∷ numbers) number rows row (omega (arith, high, is)) (omega arith, h.1, h.2));
}

pub last_mark : (rows last : ℕ) (numbers : List ℕ) → 0 < length numbers → last ≡ get_or numbers (length numbers - 1) 0 → Within 0 rows numbers → IsLastTrue (marks_from 0 rows numbers) last
last_mark rows last numbers some is h =
    let place : length numbers - 1 < length numbers = omega (arith, some) in
    record {
      here = get_first rows last numbers (omega (arith, is, below_rows numbers (length numbers - 1) 0 0 rows place h)) ∙ ap (λ (k : ℕ). Some (is_among numbers k)) is ∙ ap (λ (b : Bool). Some b) (is_there numbers (length numbers - 1) place);
      after = λ row low high. get_first rows row numbers (omega (arith, high, length-marks 0 rows numbers)) ∙ ap (λ (b : Bool). Some b) (behind_last numbers 0 rows row (omega (arith, low, is)) h);
    }

-- ---- how many there are
past_first : (start count number : ℕ) (numbers : List ℕ) → number < start → marks_from start count (number ∷ numbers) ≡ marks_from start count numbers
past_first start zero number numbers lt = refl
past_first start (suc count) number numbers lt =
    let here = not_this number start numbers (λ e. omega (arith, e, lt)) in
    let more = past_first (start + 1) count number numbers (omega (arith, lt)) in
    λ i. here i ∷ more i

mark_counts : (low high count : ℕ) (numbers : List ℕ) → low + count ≡ high → Within low high numbers → true_count (marks_from low count numbers) ≡ length numbers
mark_counts low high zero [] e h = refl
mark_counts low high zero (number ∷ numbers) e h = absurd (omega (arith, e, h.0, h.1))
mark_counts low high (suc count) [] e h = false_first (marks_from (low + 1) count []) ∙ mark_counts (low + 1) high count [] (omega (arith, e)) tt
mark_counts low high (suc count) (number ∷ numbers) e h = elim (cases_lt low number) [
  | inr past ↦
      let same : number ≡ low = omega (arith, h.0, past) in
      let here = this_one number low numbers same in
      let rest = past_first (low + 1) count number numbers (omega (arith, same)) in
      let inside : Within (low + 1) high numbers = subst (λ (k : ℕ). Within (k + 1) high numbers) same h.2 in
      (λ i. true_count (here i ∷ rest i)) ∙ true_count-cons true (marks_from (low + 1) count numbers) ∙ omega (arith, mark_counts (low + 1) high count numbers (omega (arith, e)) inside)
  | inl later ↦
      let inside : Within (low + 1) high (number ∷ numbers) = (omega (arith, later), h.1, h.2) in
      let here = before_lowest (number ∷ numbers) (low + 1) high low (omega arith) inside in
      ap (λ (b : Bool). true_count (b ∷ marks_from (low + 1) count (number ∷ numbers))) here ∙ false_first (marks_from (low + 1) count (number ∷ numbers)) ∙ mark_counts (low + 1) high count (number ∷ numbers) (omega (arith, e)) inside
]

pub few_counted : (rows count : ℕ) (numbers : List ℕ) (bits : List Bool) → bits ≡ marks_from 0 rows numbers → Within 0 rows numbers → count ≡ length numbers → count ≡ true_count bits
few_counted rows count numbers bits e h is = is ∙ sym (ap true_count e ∙ mark_counts 0 rows rows numbers (omega arith) h)

pub few_rows : (rows : ℕ) (numbers : List ℕ) (bits : List Bool) → bits ≡ marks_from 0 rows numbers → (row : ℕ) → row < rows → slice_get bits row ≡ Some (is_among numbers row)
few_rows rows numbers bits e row lt = ap (λ (bs : List Bool). slice_get bs row) e ∙ get_first rows row numbers lt
