-- What a test keeps of the rows of a range.
use Rattle.std.proofs.Common.{inl, inr, cond, ◌≡◌, ℕ, zero, suc, ◌+◌, ◌-◌, ◌<◌, ◌≤◌, Bool, true, false, ◌||◌, ◌==◌, List, [], ◌∷◌, ◌++◌, length, get_or, map, All, filter, Some, slice_get, refl, sym, ap, subst, ◌∙◌, arith, eq-eqb, ne_eqb, length-append, zero-add, add-zero}
use Rattle.std.specs.List.{range_with_len}
use Rattle.std.proofs.lemmas.Bool.{cases_eq, cases_Bool}
use Rattle.std.proofs.lemmas.List.{get_or_default, append-nil, get_or_append_left, get_or-append_right, get_or-map, length-map}
use Rattle.std.proofs.lemmas.List.Elements.{All-filter, All-weaker, filter-append}
use Rattle.std.proofs.lemmas.List.Folds.{list_any_none}
use Rattle.std.proofs.lemmas.List.FromFn.{length-range_with_len, get_or-range_with_len}
use Rattle.std.proofs.lemmas.Option.{slice_get-get_or}
use Rattle.std.specs.List.Sorted.{IsStrictlyIncreasing}
use Rattle.std.proofs.lemmas.List.Kept.{IsStrictlyIncreasing-filter}
use Rattle.vx_base.specs.Masks.{chosen, is_among, Ascend}
use Rattle.vx_splits.specs.Taken.{rows_between}

abbrev kept : (ℕ → Bool) → ℕ → ℕ → List ℕ
kept p a n = filter p (range_with_len a n)

abbrev NoneIn : (ℕ → Bool) → ℕ → ℕ → Type 0
NoneIn p a n = (row : ℕ) → a ≤ row → row < a + n → p row ≡ false

-- no row from start on and before end passes
abbrev pub NoneBetween : (ℕ → Bool) → ℕ → ℕ → Type 0
NoneBetween p start end = (row : ℕ) → start ≤ row → row < end → p row ≡ false

pub agree : (p q : ℕ → Bool) (a n : ℕ) → ((row : ℕ) → a ≤ row → row < a + n → p row ≡ q row) → kept p a n ≡ kept q a n
agree p q a zero h = refl
agree p q a (suc n) h =
    let here : p a ≡ q a = h a (omega arith) (omega arith) in
    let rest : kept p (a + 1) n ≡ kept q (a + 1) n = agree p q (a + 1) n (λ row low high. h row (omega arith) (omega arith)) in
    rw (here, rest) refl

pub agree_between : (p q : ℕ → Bool) (start end : ℕ) → ((row : ℕ) → start ≤ row → row < end → p row ≡ q row) → filter p (rows_between start end) ≡ filter q (rows_between start end)
agree_between p q start end h = agree p q start (end - start) (λ row low high. h row low (omega arith))

none : (p : ℕ → Bool) (a n : ℕ) → NoneIn p a n → kept p a n ≡ []
none p a zero h = refl
none p a (suc n) h =
    let here : p a ≡ false = h a (omega arith) (omega arith) in
    let rest : kept p (a + 1) n ≡ [] = none p (a + 1) n (λ row low high. h row (omega arith) (omega arith)) in
    rw (here, rest) refl

pub none_between : (p : ℕ → Bool) (start end : ℕ) → NoneBetween p start end → filter p (rows_between start end) ≡ []
none_between p start end h = none p start (end - start) (λ row low high. h row low (omega arith))

range-append : (a m n : ℕ) → range_with_len a (m + n) ≡ range_with_len a m ++ range_with_len (a + m) n
range-append a zero n = rw (zero-add n, add-zero a) refl
range-append a (suc m) n =
    let e : suc m + n ≡ suc (m + n) = omega arith in
    let f : (a + 1) + m ≡ a + suc m = omega arith in
    rw e (ap (λ (rows : List ℕ). a ∷ rows) (range-append (a + 1) m n ∙ ap (λ (k : ℕ). range_with_len (a + 1) m ++ range_with_len k n) f))

pub split_at : (a b c : ℕ) → a ≤ b → b ≤ c → rows_between a c ≡ rows_between a b ++ rows_between b c
split_at a b c low high =
    let e : c - a ≡ (b - a) + (c - b) = omega arith in
    let f : a + (b - a) ≡ b = omega arith in
    ap (λ (k : ℕ). range_with_len a k) e ∙ range-append a (b - a) (c - b) ∙ ap (λ (k : ℕ). range_with_len a (b - a) ++ range_with_len k (c - b)) f

pub filter_at : (p : ℕ → Bool) (a b c : ℕ) → a ≤ b → b ≤ c → filter p (rows_between a c) ≡ filter p (rows_between a b) ++ filter p (rows_between b c)
filter_at p a b c low high = ap (filter p) (split_at a b c low high) ∙ filter-append p (rows_between a b) (rows_between b c)

-- the rows outside of lo..hi add nothing
pub narrowed : (p : ℕ → Bool) (start lo hi end : ℕ) → start ≤ lo → lo ≤ hi → hi ≤ end → NoneBetween p start lo → NoneBetween p hi end
    → filter p (rows_between lo hi) ≡ filter p (rows_between start end)
narrowed p start lo hi end a b c before after =
    let one = filter_at p start lo end a (omega arith) in
    let two = filter_at p lo hi end b c in
    let e = none_between p start lo before in
    let f = none_between p hi end after in
    let nil : filter p (rows_between lo hi) ++ [] ≡ filter p (rows_between lo hi) = append-nil _ in
    sym (one ∙ ap (λ (rows : List ℕ). rows ++ filter p (rows_between lo end)) e ∙ two ∙ ap (λ (rows : List ℕ). filter p (rows_between lo hi) ++ rows) f ∙ nil)

-- ---- the rows themselves
from_start : (a n : ℕ) → All (λ row. a ≤ row) (range_with_len a n)
from_start a n k d lt = let e = get_or-range_with_len a n k d (omega (arith, length-range_with_len a n)) in omega arith

pub all_from : (p : ℕ → Bool) (start end : ℕ) → All (λ row. start ≤ row) (filter p (rows_between start end))
all_from p start end = All-filter p (λ row. start ≤ row) (rows_between start end) (from_start start (end - start))

pub all_below : (p : ℕ → Bool) (start end : ℕ) → All (λ row. row < end) (filter p (rows_between start end))
all_below p start end = All-filter p (λ row. row < end) (rows_between start end)
    (λ k d lt. let e = get_or-range_with_len start (end - start) k d (omega (arith, length-range_with_len start (end - start))) in omega (arith, length-range_with_len start (end - start)))

rows_increase : (a n : ℕ) → IsStrictlyIncreasing (range_with_len a n)
rows_increase a n k lt =
    let long = length-range_with_len a n in
    let one = get_or-range_with_len a n k 0 (omega arith) in
    let two = get_or-range_with_len a n (k + 1) 0 (omega arith) in
    omega arith

pub ascend_kept : (p : ℕ → Bool) (start end : ℕ) → Ascend (filter p (rows_between start end))
ascend_kept p start end k d lt =
    let rows = filter p (rows_between start end) in
    let up = IsStrictlyIncreasing-filter p (rows_between start end) (rows_increase start (end - start)) k lt in
    rw (get_or_default rows k d 0 (omega arith), get_or_default rows (k + 1) d 0 (omega arith)) up

-- ---- a row that passes
cond_longer : (b : Bool) (a : ℕ) (rows : List ℕ) → length rows ≤ length (cond b (a ∷ rows) rows)
cond_longer true a rows = omega arith
cond_longer false a rows = omega arith

some : (p : ℕ → Bool) (a n row : ℕ) → a ≤ row → row < a + n → p row ≡ true → 0 < length (kept p a n)
some p a zero row low high e = absurd (omega arith)
some p a (suc n) row low high e =
    elim (cases_eq row a) [
      | inl same ↦ let here : p a ≡ true = ap p (sym same) ∙ e in rw here (omega arith)
      | inr other ↦ let rest = some p (a + 1) n row (omega arith) (omega arith) e in let more = cond_longer (p a) a (kept p (a + 1) n) in omega arith
    ]

pub some_between : (p : ℕ → Bool) (start end row : ℕ) → start ≤ row → row < end → p row ≡ true → 0 < length (filter p (rows_between start end))
some_between p start end row low high e = some p start (end - start) row low (omega arith) e

pub or_false : {b : Bool} (c : Bool) → b ≡ false → (b || c) ≡ c
or_false {b} c e = rw e refl

among_none : (row : ℕ) (rows : List ℕ) → All (λ index. row < index) rows → is_among rows row ≡ false
among_none row rows h = list_any_none (λ (index : ℕ). index == row) rows (λ k d lt. let above = h k d lt in ne_eqb (get_or rows k d) row (λ e. absurd (omega arith)))

among_cond : (b : Bool) (a row : ℕ) (rows : List ℕ) → (a ≡ row → ⊥) → is_among (cond b (a ∷ rows) rows) row ≡ is_among rows row
among_cond true a row rows ne = or_false (is_among rows row) (ne_eqb a row ne)
among_cond false a row rows ne = refl

among_here : (b : Bool) (a : ℕ) (rows : List ℕ) → is_among rows a ≡ false → is_among (cond b (a ∷ rows) rows) a ≡ b
among_here true a rows e = rw (eq-eqb a a refl) refl
among_here false a rows e = e

among : (p : ℕ → Bool) (a n row : ℕ) → a ≤ row → row < a + n → is_among (kept p a n) row ≡ p row
among p a zero row low high = absurd (omega arith)
among p a (suc n) row low high =
    elim (cases_eq a row) [
      | inl same ↦
          let later : All (λ index. a < index) (kept p (a + 1) n) = All-filter p (λ index. a < index) (range_with_len (a + 1) n) (All-weaker (λ index. a + 1 ≤ index) (λ index. a < index) (λ x h. omega arith) (range_with_len (a + 1) n) (from_start (a + 1) n)) in
          subst (λ (k : ℕ). is_among (kept p a (suc n)) k ≡ p k) same (among_here (p a) a (kept p (a + 1) n) (among_none a (kept p (a + 1) n) later))
      | inr other ↦ among_cond (p a) a row (kept p (a + 1) n) other ∙ among p (a + 1) n row (omega arith) (omega arith)
    ]

-- a row of the range is among those that pass just if it passes
pub among_kept : (p : ℕ → Bool) (start end row : ℕ) → start ≤ row → row < end → is_among (filter p (rows_between start end)) row ≡ p row
among_kept p start end row low high = among p start (end - start) row low (omega arith)

-- ---- the first and the last row that passes
pub before_first : (p : ℕ → Bool) (start end : ℕ) → 0 < length (filter p (rows_between start end)) → NoneBetween p start (get_or (filter p (rows_between start end)) 0 0)
before_first p start end nonempty row low high =
    elim (cases_Bool (p row)) [
      | inr fails ↦ fails
      | inl holds ↦
          let first = get_or (filter p (rows_between start end)) 0 0 in
          let bound : first < end = all_below p start end 0 0 nonempty in
          let parts = filter_at p start first end (omega arith) (omega arith) in
          let some_front : 0 < length (filter p (rows_between start first)) = some_between p start first row low high holds in
          let small = all_below p start first 0 0 some_front in
          let e : first ≡ get_or (filter p (rows_between start first)) 0 0 = ap (λ (rows : List ℕ). get_or rows 0 0) parts ∙ get_or_append_left (filter p (rows_between start first)) (filter p (rows_between first end)) 0 0 some_front in
          absurd (omega arith)
    ]

pub after_last : (p : ℕ → Bool) (start end : ℕ) → 0 < length (filter p (rows_between start end)) → NoneBetween p (get_or (filter p (rows_between start end)) (length (filter p (rows_between start end)) - 1) 0 + 1) end
after_last p start end nonempty row low high =
    elim (cases_Bool (p row)) [
      | inr fails ↦ fails
      | inl holds ↦
          let rows = filter p (rows_between start end) in
          let last = get_or rows (length rows - 1) 0 in
          let from : start ≤ last = all_from p start end (length rows - 1) 0 (omega arith) in
          let front = filter p (rows_between start (last + 1)) in
          let back = filter p (rows_between (last + 1) end) in
          let parts : rows ≡ front ++ back = filter_at p start (last + 1) end (omega arith) (omega arith) in
          let some_back : 0 < length back = some_between p (last + 1) end row low high holds in
          let long : length rows ≡ length front + length back = ap length parts ∙ length-append front back in
          let late : last + 1 ≤ get_or back (length rows - 1 - length front) 0 = all_from p (last + 1) end (length rows - 1 - length front) 0 (omega arith) in
          let e : last ≡ get_or back (length rows - 1 - length front) 0 = ap (λ (ys : List ℕ). get_or ys (length rows - 1) 0) parts ∙ get_or-append_right front back (length front) (length rows - 1) 0 refl (omega arith) in
          absurd (omega arith)
    ]

-- ---- what a mask of the test chooses
pub chosen_kept : (p : ℕ → Bool) (xs : List ℕ) → chosen (map p xs) xs ≡ filter p xs
chosen_kept p [] = refl
chosen_kept p (x ∷ xs) = chosen_cond (p x) x (map p xs) xs (filter p xs) (chosen_kept p xs)
  where
    chosen_cond : (b : Bool) (x : ℕ) (mask : List Bool) (xs rest : List ℕ) → chosen mask xs ≡ rest → chosen (b ∷ mask) (x ∷ xs) ≡ cond b (x ∷ rest) rest
    chosen_cond true x mask xs rest e = ap (λ (rows : List ℕ). x ∷ rows) e
    chosen_cond false x mask xs rest e = e

-- the mask at a row of the range
pub mask_at : (p : ℕ → Bool) (start end k row : ℕ) → start + k ≡ row → row < end → p row ≡ true → slice_get (map p (rows_between start end)) k ≡ Some true
mask_at p start end k row e lt holds =
    let rows = rows_between start end in
    let long : length rows ≡ end - start = length-range_with_len start (end - start) in
    let small : k < length rows = omega arith in
    slice_get-get_or (map p rows) k false (omega (arith, length-map rows p)) ∙ ap (λ (b : Bool). Some b) (get_or-map p rows k 0 false small ∙ ap p (get_or-range_with_len start (end - start) k 0 (omega arith) ∙ e) ∙ holds)

pub last_mask_at : (p : ℕ → Bool) (start end : ℕ) → start < end → p (end - 1) ≡ true → slice_get (map p (rows_between start end)) (length (map p (rows_between start end)) - 1) ≡ Some true
last_mask_at p start end lt holds =
    let long : length (map p (rows_between start end)) ≡ end - start = length-map (rows_between start end) p ∙ length-range_with_len start (end - start) in
    rw long (mask_at p start end (end - start - 1) (end - 1) (omega arith) (omega arith) holds)

map_agree : (f g : ℕ → Bool) (a n : ℕ) → ((row : ℕ) → a ≤ row → row < a + n → f row ≡ g row) → map f (range_with_len a n) ≡ map g (range_with_len a n)
map_agree f g a zero h = refl
map_agree f g a (suc n) h =
    let here : f a ≡ g a = h a (omega arith) (omega arith) in
    let rest : map f (range_with_len (a + 1) n) ≡ map g (range_with_len (a + 1) n) = map_agree f g (a + 1) n (λ row low high. h row (omega arith) (omega arith)) in
    rw (here, rest) refl

pub map_between : (f g : ℕ → Bool) (start end : ℕ) → ((row : ℕ) → start ≤ row → row < end → f row ≡ g row) → map f (rows_between start end) ≡ map g (rows_between start end)
map_between f g start end h = map_agree f g start (end - start) (λ row low high. h row low (omega arith))
