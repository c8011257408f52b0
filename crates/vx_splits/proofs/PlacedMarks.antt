-- Masks of rows by their places in a range.
use Rattle.std.proofs.Common.{inl, inr, ◌≡◌, ℕ, suc, ◌+◌, ◌-◌, ◌<◌, ◌≤◌, Bool, true, false, ◌||◌, ◌==◌, List, [], ◌∷◌, length, get_or, map, Some, refl, sym, ap, ◌∙◌, arith, eq-eqb, ne_eqb, ext_get_or, All}
use Rattle.std.specs.Prelude.{slice_get}
use Rattle.std.proofs.lemmas.Bool.{cases_eq}
use Rattle.std.proofs.lemmas.List.{length-map, get_or-map}
use Rattle.std.proofs.lemmas.List.FromFn.{length-range_with_len, get_or-range_with_len}
use Rattle.std.proofs.lemmas.Option.{slice_get-get_or}
use Rattle.vx_base.specs.Masks.{Ascend, is_among}
use Rattle.vx_splits.specs.Taken.{rows_between}
use Rattle.vx_splits.specs.Trimmed.{marked_as}

abbrev place_in : ℕ → ℕ → ℕ
place_in start index = index - start

pub places_ascend : (start : ℕ) (indices places : List ℕ) → places ≡ map (λ index. index - start) indices → All (λ index. start ≤ index) indices → Ascend indices → Ascend places
places_ascend start indices places e from h k d lt =
    let len : length places ≡ length indices = ap length e ∙ length-map indices (place_in start) in
    let one : get_or places k d ≡ get_or indices k 0 - start = ap (λ (xs : List ℕ). get_or xs k d) e ∙ get_or-map (place_in start) indices k 0 d (omega (arith, lt, len)) in
    let next : get_or places (k + 1) d ≡ get_or indices (k + 1) 0 - start = ap (λ (xs : List ℕ). get_or xs (k + 1) d) e ∙ get_or-map (place_in start) indices (k + 1) 0 d (omega (arith, lt, len)) in
    omega (arith, one, next, h k 0 (omega (arith, lt, len)), from k 0 (omega (arith, lt, len)))

pub places_below : (start end : ℕ) (indices places : List ℕ) → places ≡ map (λ index. index - start) indices → All (λ index. start ≤ index) indices → All (λ index. index < end) indices → All (λ index. index < end - start) places
places_below start end indices places e from below k d lt =
    let len : length places ≡ length indices = ap length e ∙ length-map indices (place_in start) in
    let one : get_or places k d ≡ get_or indices k 0 - start = ap (λ (xs : List ℕ). get_or xs k d) e ∙ get_or-map (place_in start) indices k 0 d (omega (arith, lt, len)) in
    omega (arith, one, from k 0 (omega (arith, lt, len)), below k 0 (omega (arith, lt, len)))

among_places : (start row : ℕ) (indices : List ℕ) → All (λ index. start ≤ index) indices → is_among (map (place_in start) indices) row ≡ is_among indices (start + row)
among_places start row [] h = refl
among_places start row (index ∷ indices) h =
    let from : start ≤ index = h 0 0 (omega arith) in
    let more = among_places start row indices (λ k d lt. h (suc k) d (omega (arith, lt))) in
    let here : (index - start == row) ≡ (index == start + row) = elim (cases_eq index (start + row)) [
      | inl same ↦ eq-eqb (index - start) row (omega (arith, same)) ∙ sym (eq-eqb index (start + row) same)
      | inr other ↦ ne_eqb (index - start) row (λ e. other (omega (arith, e, from))) ∙ sym (ne_eqb index (start + row) other)
    ] in
    λ i. here i || more i

pub mask_placed : (start end : ℕ) (indices places : List ℕ) (mask : List Bool) → places ≡ map (λ index. index - start) indices → All (λ index. start ≤ index) indices → length mask ≡ end - start
    → ((row : ℕ) → row < end - start → slice_get mask row ≡ Some (is_among places row)) → mask ≡ map (λ row. marked_as true (is_among indices row)) (rows_between start end)
mask_placed start end indices places mask e from len chosen =
    let test = λ (row : ℕ). marked_as true (is_among indices row) in
    let rows = rows_between start end in
    let long : length rows ≡ end - start = length-range_with_len start (end - start) in
    ext_get_or false mask (map test rows) (len ∙ sym (length-map rows test ∙ long)) (λ k lt.
    let inside : k < end - start = omega (arith, lt, len) in
    let some : Some (get_or mask k false) ≡ Some (is_among places k) = sym (slice_get-get_or mask k false lt) ∙ chosen k inside in
    let value : get_or mask k false ≡ is_among places k = cc in
    value
    ∙ ap (λ (xs : List ℕ). is_among xs k) e
    ∙ among_places start k indices from
    ∙ sym (get_or-map test rows k 0 false (omega (arith, inside, long)) ∙ ap test (get_or-range_with_len start (end - start) k 0 inside)))
