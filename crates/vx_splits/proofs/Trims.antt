-- Ranges cut down to their first and last selected row.
use Rattle.std.proofs.Common.{inl, inr, ltb-false, true≢false, ◌++◌, ◌≡◌, ℕ, zero, suc, ◌+◌, ◌-◌, ◌<◌, ◌≤◌, Bool, true, false, not, List, [], ◌∷◌, length, get_or, Any, filter, Option, Some, None, IsNone, IfSome, MatchOption, ◌↔◌, nat_lt, refl, sym, ap, ◌∙◌, arith, map, max, replicate, ltb-true, length-append}
use Rattle.std.specs.List.{range_with_len}
use Rattle.std.specs.declared.ops.Range.{Range}
use Rattle.std.proofs.lemmas.Bool.{cases_Bool}
use Rattle.std.proofs.lemmas.List.{get_or-append-add, get_or_default}
use Rattle.std.proofs.lemmas.List.Elements.{filter_passes}
use Rattle.std.proofs.lemmas.List.Filters.{length-filter_both}
use Rattle.std.proofs.lemmas.List.FromFn.{length-range_with_len}
use Rattle.vx_base.specs.Masks.{is_among}
use Rattle.vx_splits.specs.declared.selections.Selection.{Selection}
use Rattle.vx_splits.specs.declared.selections.Selection.TheVariants as variants
use Rattle.vx_splits.specs.Taken.{rows_between, selects, selected_rows}
use Rattle.vx_splits.specs.Trimmed.{AllAmong, IsSpan, IsLeft, IsTrimmedRange, marked_as, selection_mask}
use Rattle.vx_splits.proofs.Between.{NoneBetween, none_between, narrowed, filter_at, all_from, all_below, some_between, among_kept, before_first, after_last, map_between}

trimmed : (selection : Selection) (start end : ℕ) (rows : Range ℕ) → start ≤ rows.start → rows.start < rows.end → rows.end ≤ end → selects selection rows.start ≡ true → selects selection (rows.end - 1) ≡ true
    → NoneBetween (selects selection) start rows.start → NoneBetween (selects selection) rows.end end → IsTrimmedRange selection start end rows
trimmed selection start end rows from nonempty below one two before after = record {
  starts = from;
  some = nonempty;
  ends = below;
  first = one;
  last = two;
  keeps = narrowed (selects selection) start rows.start rows.end end from (omega arith) below before after;
}

some_selected : (selection : Selection) (start end : ℕ) (rows : Range ℕ) → IsTrimmedRange selection start end rows → selected_rows selection start end ≡ [] → ⊥
some_selected selection start end rows h none =
    let a = h.starts in
    let b = h.some in
    let c = h.ends in
    let more = some_between (selects selection) start end rows.start a (omega arith) h.first in
    let long : length (selected_rows selection start end) ≡ 0 = ap length none in
    absurd (omega arith)

-- the rows with these numbers
include_trimmed : (xs : List ℕ) (start end : ℕ) (rows : Range ℕ) → IsSpan (filter (is_among xs) (rows_between start end)) rows → IsTrimmedRange (variants.IncludeByIndex xs) start end rows
include_trimmed xs start end rows h =
    let p = is_among xs in
    let within = filter p (rows_between start end) in
    let n = length within in
    let a = h.first in
    let b = h.last in
    let c = h.some in
    let from : start ≤ get_or within 0 0 = all_from p start end 0 0 c in
    let below : get_or within (n - 1) 0 < end = all_below p start end (n - 1) 0 (omega arith) in
    let before : NoneBetween p start rows.start = rw a (before_first p start end c) in
    let after : NoneBetween p rows.end end = rw b (after_last p start end c) in
    let first : p rows.start ≡ true = ap p a ∙ filter_passes p (rows_between start end) 0 0 c in
    let end_is : rows.end - 1 ≡ get_or within (n - 1) 0 = omega arith in
    let last : p (rows.end - 1) ≡ true = ap p end_is ∙ filter_passes p (rows_between start end) (n - 1) 0 (omega arith) in
    let under = all_below p start end 0 0 c in
    let order : rows.start < rows.end = elim (cases_Bool (nat_lt rows.start rows.end)) [
      | inl lt ↦ ltb-true rows.start rows.end lt
      | inr ge ↦ let past = ltb-false rows.start rows.end ge in absurd (true≢false (sym first ∙ after rows.start past (omega arith)))
    ] in
    trimmed (variants.IncludeByIndex xs) start end rows (omega arith) order (omega arith) first last before after

-- the rows with other numbers
exclude_trimmed : (xs : List ℕ) (start end : ℕ) (rows : Range ℕ) → IsLeft (filter (is_among xs) (rows_between start end)) start end rows → IsTrimmedRange (variants.ExcludeByIndex xs) start end rows
exclude_trimmed xs start end rows h =
    let a = h.starts in
    let b = h.some in
    let c = h.ends in
    trimmed (variants.ExcludeByIndex xs) start end rows a b c
    (ap not (sym (among_kept (is_among xs) start end rows.start a (omega arith)) ∙ h.first))
    (ap not (sym (among_kept (is_among xs) start end (rows.end - 1) (omega arith) (omega arith)) ∙ h.last))
    (λ row low high. ap not (sym (among_kept (is_among xs) start end row low (omega arith)) ∙ h.before row low high))
    (λ row low high. ap not (sym (among_kept (is_among xs) start end row (omega arith) high) ∙ h.after row low high))

exclude_none : (xs : List ℕ) (start end : ℕ) → AllAmong (filter (is_among xs) (rows_between start end)) start end → selected_rows (variants.ExcludeByIndex xs) start end ≡ []
exclude_none xs start end h = none_between (selects (variants.ExcludeByIndex xs)) start end (λ row low high. ap not (sym (among_kept (is_among xs) start end row low high) ∙ h row low high))

pub record Trims (selection : Selection) (start end : ℕ) (result : Option (Range ℕ)) : Type 0 where
  pub none : IsNone result ↔ (selected_rows selection start end ≡ [])
  pub some : IfSome result (λ rows. IsTrimmedRange selection start end rows)

pub trims : (selection : Selection) (start end : ℕ) (result : Option (Range ℕ)) → MatchOption result (selected_rows selection start end ≡ []) (λ rows. IsTrimmedRange selection start end rows) → Trims selection start end result
trims selection start end None h = record { none = (λ _. h, λ _. refl); some = tt }
trims selection start end (Some rows) h = record { none = (λ e. absurd (true≢false e), λ e. absurd (some_selected selection start end rows h e)); some = h }

pub include_trims : (xs : List ℕ) (start end : ℕ) (result : Option (Range ℕ)) → MatchOption result (filter (is_among xs) (rows_between start end) ≡ []) (λ rows. IsSpan (filter (is_among xs) (rows_between start end)) rows) → Trims (variants.IncludeByIndex xs) start end result
include_trims xs start end None h = trims (variants.IncludeByIndex xs) start end None h
include_trims xs start end (Some rows) h = trims (variants.IncludeByIndex xs) start end (Some rows) (include_trimmed xs start end rows h)

pub exclude_trims : (xs : List ℕ) (start end : ℕ) (result : Option (Range ℕ)) → MatchOption result (AllAmong (filter (is_among xs) (rows_between start end)) start end) (λ rows. IsLeft (filter (is_among xs) (rows_between start end)) start end rows) → Trims (variants.ExcludeByIndex xs) start end result
exclude_trims xs start end None h = trims (variants.ExcludeByIndex xs) start end None (exclude_none xs start end h)
exclude_trims xs start end (Some rows) h = trims (variants.ExcludeByIndex xs) start end (Some rows) (exclude_trimmed xs start end rows h)

-- ---- counts
pass_all : (rows : List ℕ) → filter (selects variants.All) rows ≡ rows
pass_all [] = refl
pass_all (x ∷ rows) = ap (λ (ys : List ℕ). x ∷ ys) (pass_all rows)

pub count_all : (start end : ℕ) → length (selected_rows variants.All start end) ≡ end - start
count_all start end = ap length (pass_all (rows_between start end)) ∙ length-range_with_len start (end - start)

pub count_excluded : (xs : List ℕ) (start end : ℕ) → length (filter (is_among xs) (rows_between start end)) + length (selected_rows (variants.ExcludeByIndex xs) start end) ≡ end - start
count_excluded xs start end = length-filter_both (is_among xs) (selects (variants.ExcludeByIndex xs)) (λ row. refl) (rows_between start end) ∙ length-range_with_len start (end - start)

some_there : (selection : Selection) (start end count from : ℕ) → start ≤ from → count ≤ from → 0 < length (selected_rows selection from end) → Any (λ row. count ≤ row) (selected_rows selection start end)
some_there selection start end count from one two some =
    let p = selects selection in
    let front = filter p (rows_between start from) in
    let back = filter p (rows_between from end) in
    let low = all_from p from end 0 0 some in
    let high = all_below p from end 0 0 some in
    let parts : selected_rows selection start end ≡ front ++ back = filter_at p start from end one (omega arith) in
    let long = ap length parts ∙ length-append front back in
    let x = get_or back 0 0 in
    let at = ap (λ (rows : List ℕ). get_or rows (length front + 0) x) parts ∙ get_or-append-add front back 0 x ∙ get_or_default back 0 x 0 some in
    (length front + 0, x, omega arith, at, omega arith)

some_back : (selection : Selection) (start end count from : ℕ) → from ≡ max start count → Any (λ row. count ≤ row) (selected_rows selection start end) → 0 < length (selected_rows selection from end)
some_back selection start end count from is some =
    let p = selects selection in
    let k = some.0 in
    let x = some.1 in
    let at = some.3 in
    let late = some.4 in
    let low = all_from p start end k x some.2 in
    let high = all_below p start end k x some.2 in
    let passes : p x ≡ true = sym (ap p at) ∙ filter_passes p (rows_between start end) k x some.2 in
    some_between p from end x (omega arith) (omega arith) passes

pub some_past : (selection : Selection) (start end count from : ℕ) → from ≡ max start count → (0 < length (selected_rows selection from end)) ↔ Any (λ row. count ≤ row) (selected_rows selection start end)
some_past selection start end count from is = (some_there selection start end count from (omega arith) (omega arith), some_back selection start end count from is)

-- ---- masks
mask_of_all : (a n : ℕ) → replicate n true ≡ map (selects variants.All) (range_with_len a n)
mask_of_all a zero = refl
mask_of_all a (suc n) = ap (λ (bits : List Bool). true ∷ bits) (mask_of_all (a + 1) n)

pub mask_all : (start end : ℕ) → replicate (end - start) true ≡ selection_mask variants.All start end
mask_all start end = mask_of_all start (end - start)

pub mask_included : (xs : List ℕ) (start end : ℕ) → map (λ row. marked_as true (is_among (filter (is_among xs) (rows_between start end)) row)) (rows_between start end) ≡ selection_mask (variants.IncludeByIndex xs) start end
mask_included xs start end = map_between (λ row. is_among (filter (is_among xs) (rows_between start end)) row) (is_among xs) start end (among_kept (is_among xs) start end)

pub mask_excluded : (xs : List ℕ) (start end : ℕ) → map (λ row. marked_as false (is_among (filter (is_among xs) (rows_between start end)) row)) (rows_between start end) ≡ selection_mask (variants.ExcludeByIndex xs) start end
mask_excluded xs start end = map_between (λ row. not (is_among (filter (is_among xs) (rows_between start end)) row)) (selects (variants.ExcludeByIndex xs)) start end (λ row low high. ap not (among_kept (is_among xs) start end row low high))
