-- What the ranges of gathered indices are: in order, disjoint, small, and they cover the indices.
use Rattle.std.proofs.Common.{inl, inr, ◌≡◌, ℕ, zero, suc, ◌+◌, ◌-◌, ◌<◌, ◌≤◌, Bool, List, [], ◌∷◌, length, Option, Some, None, Result, Ok, Err, refl, sym, ap, subst, ◌∙◌, arith}
use Rattle.std.specs.Prelude.{option_map, IfOk, IfSome, ◌⊎◌}
use Rattle.std.specs.List.{All, AllAdjacentBelow, filter, range_with_len}
use Rattle.std.specs.declared.ops.Range.{Range}
use Rattle.std.proofs.lemmas.Bool.{cases_lt, lt-ltb, le-ltb, le-leb, lt-leb, cond_both}
use Rattle.std.proofs.lemmas.List.Elements.{All-cons, All-nil, All-weaker, All-same, All-filter}
use Rattle.std.proofs.lemmas.List.FromFn.{length-range_with_len, get_or-range_with_len}
use Rattle.vx_splits.specs.declared.selections.Selection.{Selection}
use Rattle.vx_splits.specs.declared.selections.Selection.TheVariants as variants
use Rattle.vx_splits.specs.SplitRanges.{range_of, gathered, gathered_ranges, split_ranges, split_ranges_within, rows_to_cover, IsCovered, AreSplitRanges}
use Rattle.vx_splits.specs.Limits.{range_rows_limit, least_gap}
use Rattle.vx_splits.specs.Taken.{selects, rows_between, selected_rows}
use Rattle.vx_splits.proofs.Rising.{Rising, lower}

-- ---- the rows that are gathered
rising_kept : (test : ℕ → Bool) (n low : ℕ) → Rising low (filter test (range_with_len low n))
rising_kept test zero low = tt
rising_kept test (suc n) low =
    let rest = rising_kept test n (low + 1) in
    let rows = filter test (range_with_len (low + 1) n) in
    cond_both (test low) (low ∷ rows) rows (Rising low) (λ e. (omega arith, rest)) (λ e. lower low (low + 1) rows (omega arith) rest)

pub rows_below : (test : ℕ → Bool) (start end limit : ℕ) (rows : List ℕ) → end ≤ limit → rows ≡ filter test (rows_between start end) → All (λ (row : ℕ). row < limit) rows
rows_below test start end limit rows le e =
    let Below = λ (row : ℕ). row < limit in
    All-same Below rows (filter test (rows_between start end)) e (All-filter test Below (rows_between start end)
    (λ k d inside.
    let size = length-range_with_len start (end - start) in
    let here = get_or-range_with_len start (end - start) k d (omega arith) in
    omega arith))

-- ---- the ranges
abbrev IsSmall : Range ℕ → Type 0
IsSmall range = (range.start < range.end) × (range.end - range.start < range_rows_limit)

-- each begins behind low, or far enough behind the one before it, and is small
abbrev Ordered : ℕ → List (Range ℕ) → Type 0
Ordered low [] = Unit {0}
Ordered low (range ∷ ranges) = (low ≤ range.start + 1) × IsSmall range × Ordered (range.end + least_gap) ranges

ordered_from : (low high : ℕ) (ranges : List (Range ℕ)) → low ≤ high → Ordered high ranges → Ordered low ranges
ordered_from low high [] le h = tt
ordered_from low high (range ∷ ranges) le h = (omega (arith, h.0), h.1, h.2)

far_behind : (low : ℕ) (ranges : List (Range ℕ)) → Ordered low ranges → AllAdjacentBelow (λ one two. one.end + least_gap ≤ two.start + 1) ranges (length ranges)
far_behind low [] h k d below = absurd (omega arith)
far_behind low (one ∷ []) h k d below = absurd (omega arith)
far_behind low (one ∷ two ∷ ranges) h zero d below = h.2.0
far_behind low (one ∷ two ∷ ranges) h (suc k) d below =
    let e : suc k + 1 ≡ suc (k + 1) = omega arith in
    rw e (far_behind (one.end + least_gap) (two ∷ ranges) h.2 k d (omega arith))

small : (low : ℕ) (ranges : List (Range ℕ)) → Ordered low ranges → All IsSmall ranges
small low [] h = All-nil IsSmall
small low (range ∷ ranges) h = All-cons IsSmall range ranges h.1 (small (range.end + least_gap) ranges h.2)

abbrev Covered : List (Range ℕ) → ℕ → Type 0
Covered [] row = ⊥
Covered (range ∷ ranges) row = ((range.start ≤ row) × (row < range.end)) ⊎ Covered ranges row

is_covered : (ranges : List (Range ℕ)) (row : ℕ) → Covered ranges row → IsCovered ranges row
is_covered [] row h = absurd h
is_covered (range ∷ ranges) row h = elim h [
  | inl here ↦ (0, range, omega arith, refl, here)
  | inr behind ↦ let found = is_covered ranges row behind in (suc found.0, found.1, omega (arith, found.2), found.3, found.4)
]

-- ---- what is gathered
-- the laws, with an open range before the indices
record Laws (start end : ℕ) (indices : List ℕ) (ranges : List (Range ℕ)) : Type 0 where
  ordered : Ordered (start + 1) ranges
  opened : (row : ℕ) → start ≤ row → row < end → Covered ranges row
  others : All (Covered ranges) indices

mapped : (first : Range ℕ) (o : Option (List (Range ℕ))) (ranges : List (Range ℕ)) → option_map (λ (rest : List (Range ℕ)). first ∷ rest) o ≡ Some ranges → (rest : List (Range ℕ)) × (o ≡ Some rest) × (first ∷ rest ≡ ranges)
mapped first None ranges e = absurd (cc)
mapped first (Some rest) ranges e = (rest, refl, cc)

laws : (indices : List ℕ) (start end : ℕ) (ranges : List (Range ℕ)) → start < end → end - start < range_rows_limit → Rising end indices → gathered start end indices ≡ Some ranges → Laws start end indices ranges
laws [] start end ranges some short up e =
    let same : range_of start end ∷ [] ≡ ranges = cc in
    subst (λ (rs : List (Range ℕ)). Laws start end [] rs) same (record {
      ordered = (omega arith, (some, short), tt);
      opened = λ row low high. inl (low, high);
      others = All-nil (Covered (range_of start end ∷ []));
    })
laws (index ∷ indices) start end ranges some short up e = elim (cases_lt (index + 1 - start) range_rows_limit) [
  | inl fits ↦
      let more = rw (lt-ltb (index + 1 - start) range_rows_limit fits) at e in
      let rest = laws indices start (index + 1) ranges (omega (arith, up.0)) fits up.1 more in
      record {
        ordered = rest.ordered;
        opened = λ row low high. rest.opened row low (omega (arith, up.0));
        others = All-cons (Covered ranges) index indices (rest.opened index (omega (arith, up.0)) (omega arith)) rest.others;
      }
  | inr large ↦ elim (cases_lt (index + 1 - end) least_gap) [
    | inl near ↦ absurd (let none = rw (le-ltb (index + 1 - start) range_rows_limit large, lt-leb least_gap (index + 1 - end) near) at e in cc)
    | inr far ↦
        let own = rw (le-ltb (index + 1 - start) range_rows_limit large, le-leb least_gap (index + 1 - end) far) at e in
        let parts = mapped (range_of start end) (gathered index (index + 1) indices) ranges own in
        let rest = laws indices index (index + 1) parts.0 (omega arith) (omega arith) up.1 parts.1 in
        let whole = range_of start end ∷ parts.0 in
        subst (λ (rs : List (Range ℕ)). Laws start end (index ∷ indices) rs) parts.2 (record {
          ordered = (omega arith, (some, short), ordered_from (end + least_gap) (index + 1) parts.0 (omega arith) rest.ordered);
          opened = λ row low high. inl (low, high);
          others = All-cons (Covered whole) index indices (inr (rest.opened index (omega arith) (omega arith))) (All-weaker (Covered parts.0) (Covered whole) (λ row h. inr h) indices rest.others);
        })
  ]
]

split_ranges_of : (low : ℕ) (rows : List ℕ) (ranges : List (Range ℕ)) → Ordered low ranges → All (IsCovered ranges) rows → AreSplitRanges rows ranges
split_ranges_of low rows ranges ordered cover = record {
  ascend = λ k d below. let far = far_behind low ranges ordered k d below in omega arith;
  apart = λ k d below. let far = far_behind low ranges ordered k d below in omega arith;
  small = small low ranges ordered;
  cover = cover;
}

gathered_laws : (low : ℕ) (rows : List ℕ) (ranges : List (Range ℕ)) → Rising low rows → gathered_ranges rows ≡ Some ranges → AreSplitRanges rows ranges
gathered_laws low [] ranges up e =
    let same : [] ≡ ranges = cc in
    subst (λ (rs : List (Range ℕ)). AreSplitRanges [] rs) same (split_ranges_of 0 [] [] tt (All-nil (IsCovered [])))
gathered_laws low (index ∷ rows) ranges up e =
    let rest = laws rows index (index + 1) ranges (omega arith) (omega arith) up.1 e in
    split_ranges_of (index + 1) (index ∷ rows) ranges rest.ordered
    (All-weaker (Covered ranges) (IsCovered ranges) (is_covered ranges) (index ∷ rows) (All-cons (Covered ranges) index rows (rest.opened index (omega arith) (omega arith)) rest.others))

within_laws : (selection : Selection) (start end : ℕ) (ranges : List (Range ℕ)) → split_ranges_within selection start end ≡ Some ranges → AreSplitRanges (selected_rows selection start end) ranges
within_laws variants.All start end ranges e = absurd (cc)
within_laws (variants.IncludeByIndex rows) start end ranges e = gathered_laws start (selected_rows (variants.IncludeByIndex rows) start end) ranges (rising_kept (selects (variants.IncludeByIndex rows)) (end - start) start) e
within_laws (variants.ExcludeByIndex rows) start end ranges e = absurd (cc)

split_laws : (selection : Selection) (range : Option (Range ℕ)) (ranges : List (Range ℕ)) → split_ranges selection range ≡ Some ranges → AreSplitRanges (rows_to_cover selection range) ranges
unfolding rows_to_cover
split_laws selection None ranges e = within_laws selection 0 18446744073709551615 ranges e
split_laws selection (Some range) ranges e = elim (cases_lt range.start range.end) [
  | inl forwards ↦ let own = rw (lt-ltb range.start range.end forwards) at e in within_laws selection range.start range.end ranges own
  | inr back ↦
      let none : range.end - range.start ≡ 0 = omega arith in
      let same = rw (le-ltb range.start range.end back) at e in
      rw none (gathered_laws 0 [] ranges tt same)
]

-- ---- the returns
-- the laws of an answer that is told, of any type whose items are ranges
abbrev pub AnswerLaws : {Y E : Type 0} → (Y → List (Range ℕ)) → Selection → Option (Range ℕ) → Result (Option Y) E → Type 0
AnswerLaws items selection range answer = IfOk answer (λ ranges. IfSome ranges (λ given. AreSplitRanges (rows_to_cover selection range) (items given)))

told_laws : {Y E : Type 0} (items : Y → List (Range ℕ)) (selection : Selection) (range : Option (Range ℕ)) (told : Option (List (Range ℕ))) (answer : Result (Option Y) E)
    → split_ranges selection range ≡ told → IfOk answer (λ ranges. option_map items ranges ≡ told) → AnswerLaws items selection range answer
told_laws items selection range told (Ok None) e h = tt
told_laws items selection range told (Ok (Some given)) e h = split_laws selection range (items given) (e ∙ sym h)
told_laws items selection range told (Err error) e h = tt

all_told : (selection : Selection) (range : Option (Range ℕ)) → range ≡ None → split_ranges selection range ≡ split_ranges_within selection 0 18446744073709551615
all_told selection range e = ap (λ (o : Option (Range ℕ)). split_ranges selection o) e

range_told : (selection : Selection) (range : Option (Range ℕ)) (rows : Range ℕ) → range ≡ Some rows → rows.start < rows.end → split_ranges selection range ≡ split_ranges_within selection rows.start rows.end
range_told selection range rows e forwards = ap (λ (o : Option (Range ℕ)). split_ranges selection o) e ∙ rw (lt-ltb rows.start rows.end forwards) refl

empty_told : (selection : Selection) (range : Option (Range ℕ)) (rows : Range ℕ) → range ≡ Some rows → rows.end ≤ rows.start → split_ranges selection range ≡ Some []
empty_told selection range rows e back = ap (λ (o : Option (Range ℕ)). split_ranges selection o) e ∙ rw (le-ltb rows.start rows.end back) refl

pub laws_of_all : {Y E : Type 0} (items : Y → List (Range ℕ)) (selection : Selection) (range : Option (Range ℕ)) (answer : Result (Option Y) E)
    → range ≡ None → IfOk answer (λ ranges. option_map items ranges ≡ split_ranges_within selection 0 18446744073709551615) → AnswerLaws items selection range answer
laws_of_all items selection range answer e h = told_laws items selection range (split_ranges_within selection 0 18446744073709551615) answer (all_told selection range e) h

pub laws_of_range : {Y E : Type 0} (items : Y → List (Range ℕ)) (selection : Selection) (range : Option (Range ℕ)) (rows : Range ℕ) (answer : Result (Option Y) E)
    → range ≡ Some rows → rows.start < rows.end → IfOk answer (λ ranges. option_map items ranges ≡ split_ranges_within selection rows.start rows.end) → AnswerLaws items selection range answer
laws_of_range items selection range rows answer e forwards h = told_laws items selection range (split_ranges_within selection rows.start rows.end) answer (range_told selection range rows e forwards) h

pub laws_of_empty : (selection : Selection) (range : Option (Range ℕ)) (rows : Range ℕ) (ranges : List (Range ℕ)) → range ≡ Some rows → rows.end ≤ rows.start → ranges ≡ [] → AreSplitRanges (rows_to_cover selection range) ranges
laws_of_empty selection range rows ranges e back none = split_laws selection range ranges (empty_told selection range rows e back ∙ ap (λ (rs : List (Range ℕ)). Some rs) (sym none))
