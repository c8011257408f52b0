-- Runs at the ends of rows that ascend, and the first place at which values don't ascend.
use Rattle.std.proofs.Common.{inl, inr, ◌≡◌, ℕ, zero, suc, ◌+◌, ◌-◌, ◌<◌, ◌≤◌, true, false, ◌==◌, List, length, get_or, All, sym, ◌∙◌, arith, eq-eqb, ne_eqb, get_or-take, length-take, true≢false}
use Rattle.std.specs.List.{AllAdjacentBelow}
use Rattle.std.proofs.lemmas.Bool.{cases_eq, cases_lt}
use Rattle.std.proofs.lemmas.List.{get_or_default}
use Rattle.std.proofs.lemmas.List.Folds.{list_any_none, list_any_at}
use Rattle.vx_base.specs.Masks.{Ascend, is_among}
use Rattle.vx_splits.specs.Taken.{IsFirstUnsorted}
use Rattle.vx_splits.specs.Trimmed.{AllAmong, IsPartedAt}

-- the values before the place ascend
abbrev pub AscendBelow : List ℕ → ℕ → Type 0
AscendBelow values place = AllAdjacentBelow (λ one two. one < two) values place

pub ascend_none : (values : List ℕ) → AscendBelow values 1
ascend_none values k d lt = absurd (omega arith)

pub ascend_more : (values : List ℕ) (i : ℕ) → 1 ≤ i → i < length values → get_or values (i - 1) 0 < get_or values i 0 → AscendBelow values i → AscendBelow values (i + 1)
ascend_more values i some lt up so_far k d within =
    elim (cases_eq (k + 1) i) [
      | inl same ↦
          let e : k ≡ i - 1 = omega arith in
          rw (get_or_default values k d 0 (omega arith), get_or_default values (k + 1) d 0 (omega arith), same, e) up
      | inr other ↦ so_far k d (omega arith)
    ]

pub ascend_all : (values : List ℕ) (i : ℕ) → length values ≤ i → AscendBelow values i → Ascend values
ascend_all values i past so_far k d lt = so_far k d (omega arith)

pub first_unsorted_at : (values : List ℕ) (i : ℕ) → 1 ≤ i → i < length values → get_or values i 0 ≤ get_or values (i - 1) 0 → AscendBelow values i → IsFirstUnsorted values i
first_unsorted_at values i some lt down so_far = record {
  behind_another = omega arith;
  within = lt;
  not_greater = down;
  before = λ k d within. let long = length-take i values in rw (get_or-take i values k d (omega arith), get_or-take i values (k + 1) d (omega arith)) (so_far k d (omega arith));
}

-- rows that ascend are at least as far apart as their places
pub apart : (xs : List ℕ) (i n : ℕ) → Ascend xs → i + n < length xs → get_or xs i 0 + n ≤ get_or xs (i + n) 0
apart xs i zero up lt = let e : i + 0 ≡ i = omega arith in rw e (omega arith)
apart xs i (suc n) up lt =
    let before = apart xs i n up (omega arith) in
    let step = up (i + n) 0 (omega arith) in
    let e : i + suc n ≡ i + n + 1 = omega arith in
    rw e (omega arith)

pub apart_at : (xs : List ℕ) (i j : ℕ) → Ascend xs → i ≤ j → j < length xs → get_or xs i 0 + (j - i) ≤ get_or xs j 0
apart_at xs i j up le lt = let e : i + (j - i) ≡ j = omega arith in let h = apart xs i (j - i) up (omega arith) in rw e at h

not_among : (row : ℕ) (xs : List ℕ) → ((k : ℕ) → k < length xs → get_or xs k 0 ≡ row → ⊥) → is_among xs row ≡ false
not_among row xs h = list_any_none (λ (index : ℕ). index == row) xs (λ k d lt. ne_eqb (get_or xs k d) row (λ e. h k lt (get_or_default xs k 0 d lt ∙ e)))

-- ---- the search
pub place_below : (rows : List ℕ) (place : ℕ) → Ascend rows → place < length rows → place ≤ get_or rows place 0
place_below rows place up lt = let far = apart_at rows 0 place up (omega arith) lt in omega arith

-- what the search knows: the place lies from low to high
pub record Parting (rows : List ℕ) (bound low high : ℕ) : Type 0 where
  pub order : low ≤ high
  pub inside : high ≤ length rows
  pub near : 0 < low → get_or rows (low - 1) 0 < bound + (low - 1)
  pub far : high < length rows → bound + high ≤ get_or rows high 0

pub parting_none : (rows : List ℕ) (bound : ℕ) → Parting rows bound 0 (length rows)
parting_none rows bound = record { order = omega arith; inside = omega arith; near = λ some. absurd (omega arith); far = λ more. absurd (omega arith) }

pub parting_upper : (rows : List ℕ) (bound low high middle : ℕ) → middle < high → get_or rows middle 0 - middle < bound → Parting rows bound low high → Parting rows bound (middle + 1) high
parting_upper rows bound low high middle under near h =
    let same : middle + 1 - 1 ≡ middle = omega arith in
    record { order = omega arith; inside = h.inside; near = λ some. rw same (omega arith); far = h.far }

pub parting_lower : (rows : List ℕ) (bound low high middle : ℕ) → low ≤ middle → middle < high → middle ≤ get_or rows middle 0 → bound ≤ get_or rows middle 0 - middle → Parting rows bound low high → Parting rows bound low middle
parting_lower rows bound low high middle over under place far h = record { order = over; inside = omega (arith, h.inside); near = h.near; far = λ more. omega arith }

pub parted : (rows : List ℕ) (bound low high : ℕ) → high ≤ low → Parting rows bound low high → IsPartedAt rows bound low
parted rows bound low high past h =
    let same : high ≡ low = omega (arith, h.order) in
    record { inside = omega (arith, h.inside); near = h.near; far = λ more. let far = h.far (omega arith) in rw same at far }

-- the rows before the place, and those from it on
pub near_all : (rows : List ℕ) (bound place k : ℕ) → Ascend rows → IsPartedAt rows bound place → k < place → get_or rows k 0 < bound + k
near_all rows bound place k up h lt =
    let inside = h.inside in
    let last = h.near (omega arith) in
    let far = apart_at rows k (place - 1) up (omega arith) (omega arith) in
    omega arith

pub far_all : (rows : List ℕ) (bound place k : ℕ) → Ascend rows → IsPartedAt rows bound place → place ≤ k → k < length rows → bound + k ≤ get_or rows k 0
far_all rows bound place k up h le lt =
    let first = h.far (omega arith) in
    let far = apart_at rows place k up le lt in
    omega arith

among_at : (rows : List ℕ) (k row : ℕ) → k < length rows → get_or rows k 0 ≡ row → is_among rows row ≡ true
among_at rows k row lt e = list_any_at (λ (index : ℕ). index == row) rows k 0 lt (eq-eqb (get_or rows k 0) row e)

-- ---- from the front
pub leading_at : (excluded : List ℕ) (start place k : ℕ) → Ascend excluded → All (λ row. start ≤ row) excluded → IsPartedAt excluded (start + 1) place → k < place → get_or excluded k 0 ≡ start + k
leading_at excluded start place k up from h lt =
    let inside = h.inside in
    let near = near_all excluded (start + 1) place k up h lt in
    let first = from 0 0 (omega arith) in
    let far = apart_at excluded 0 k up (omega arith) (omega arith) in
    omega arith

pub leading_inside : (excluded : List ℕ) (start end place : ℕ) → start < end → Ascend excluded → All (λ row. start ≤ row) excluded → All (λ row. row < end) excluded → IsPartedAt excluded (start + 1) place → start + place ≤ end
leading_inside excluded start end place some up from below h =
    elim (cases_eq place 0) [
      | inl none ↦ omega arith
      | inr more ↦
          let inside = h.inside in
          let at = leading_at excluded start place (place - 1) up from h (omega arith) in
          let under = below (place - 1) 0 (omega arith) in
          omega arith
    ]

pub leading_among : (excluded : List ℕ) (start place : ℕ) → Ascend excluded → All (λ row. start ≤ row) excluded → IsPartedAt excluded (start + 1) place → AllAmong excluded start (start + place)
leading_among excluded start place up from h row low high =
    let inside = h.inside in
    let at = leading_at excluded start place (row - start) up from h (omega arith) in
    among_at excluded (row - start) row (omega arith) (omega arith)

pub leading_ends : (excluded : List ℕ) (start place : ℕ) → Ascend excluded → All (λ row. start ≤ row) excluded → IsPartedAt excluded (start + 1) place → is_among excluded (start + place) ≡ false
leading_ends excluded start place up from h = not_among (start + place) excluded (λ k within e.
    elim (cases_lt k place) [
      | inl before ↦ let at = leading_at excluded start place k up from h before in absurd (omega arith)
      | inr after ↦ let far = far_all excluded (start + 1) place k up h after within in absurd (omega arith)
    ])

-- ---- from the end
pub as_many_below : (excluded : List ℕ) (end : ℕ) → Ascend excluded → All (λ row. row < end) excluded → length excluded ≤ end
as_many_below excluded end up below =
    elim (cases_eq (length excluded) 0) [
      | inl none ↦ omega arith
      | inr more ↦
          let last = place_below excluded (length excluded - 1) up (omega arith) in
          let under = below (length excluded - 1) 0 (omega arith) in
          omega arith
    ]

pub trailing_at : (excluded : List ℕ) (end place k : ℕ) → Ascend excluded → All (λ row. row < end) excluded → IsPartedAt excluded (end - length excluded) place → place ≤ k → k < length excluded → get_or excluded k 0 ≡ end - length excluded + k
trailing_at excluded end place k up below h le lt =
    let many = as_many_below excluded end up below in
    let far = far_all excluded (end - length excluded) place k up h le lt in
    let apart_last = apart_at excluded k (length excluded - 1) up (omega arith) (omega arith) in
    let under = below (length excluded - 1) 0 (omega arith) in
    omega arith

pub trailing_among : (excluded : List ℕ) (end place : ℕ) → Ascend excluded → All (λ row. row < end) excluded → IsPartedAt excluded (end - length excluded) place → AllAmong excluded (end - (length excluded - place)) end
trailing_among excluded end place up below h row low high =
    let many = as_many_below excluded end up below in
    let inside = h.inside in
    let k = row + length excluded - end in
    let at = trailing_at excluded end place k up below h (omega arith) (omega arith) in
    among_at excluded k row (omega arith) (omega arith)

pub trailing_ends : (excluded : List ℕ) (end place : ℕ) → Ascend excluded → All (λ row. row < end) excluded → IsPartedAt excluded (end - length excluded) place → 0 < end - (length excluded - place) → is_among excluded (end - (length excluded - place) - 1) ≡ false
trailing_ends excluded end place up below h some = not_among (end - (length excluded - place) - 1) excluded (λ k within e.
    let many = as_many_below excluded end up below in
    let inside = h.inside in
    elim (cases_lt k place) [
      | inl before ↦ let near = near_all excluded (end - length excluded) place k up h before in absurd (omega arith)
      | inr after ↦ let at = trailing_at excluded end place k up below h after within in absurd (omega arith)
    ])

-- the rows that are left lie between
pub left_some : (excluded : List ℕ) (start end past : ℕ) → start < end → is_among excluded start ≡ false → AllAmong excluded past end → start < past
left_some excluded start end past lt left after =
    elim (cases_lt start past) [
      | inl fine ↦ fine
      | inr early ↦ absurd (true≢false (sym (after start early lt) ∙ left))
    ]
