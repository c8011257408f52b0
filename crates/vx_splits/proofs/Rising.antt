-- Rows that ascend, by recursion, and what they are of the rows of a range.
use Rattle.std.proofs.Common.{inl, inr, ◌≡◌, ℕ, zero, suc, ◌+◌, ◌-◌, ◌<◌, ◌≤◌, Bool, true, false, ◌||◌, ◌==◌, ltb, List, [], ◌∷◌, ◌++◌, length, get_or, take, drop, All, filter, refl, sym, ap, subst, ◌∙◌, arith, eq-eqb, ne_eqb, length-take, length-drop, get_or-take, get_or-drop, take-append-drop}
use Rattle.std.specs.List.{range_with_len, AllWithin}
use Rattle.std.proofs.lemmas.Bool.{cases_eq}
use Rattle.std.proofs.lemmas.List.Elements.{All-cons, All-nil}
use Rattle.std.proofs.lemmas.List.Folds.{list_any_none, list_any-append}
use Rattle.std.specs.List.Sorted.{IsPartitionedBy}
use Rattle.std.proofs.lemmas.List.Sorted.{IsPartitionedBy-ltb, IsNonDecreasingBy-from_all_adjacent}
use Rattle.vx_base.specs.Masks.{Ascend, is_among}
use Rattle.vx_splits.specs.Taken.{rows_between}
use Rattle.vx_splits.proofs.Between.{agree, agree_between}

abbrev pub Rising : ℕ → List ℕ → Type 0
Rising low [] = Unit {0}
Rising low (x ∷ xs) = (low ≤ x) × Rising (x + 1) xs

pub Ascend-tail : (x : ℕ) (xs : List ℕ) → Ascend (x ∷ xs) → Ascend xs
Ascend-tail x xs up k d within =
    let e : suc k + 1 ≡ suc (k + 1) = omega arith in
    let next = up (suc k) d (omega arith) in
    rw e at next

pub rising : (low : ℕ) (xs : List ℕ) → Ascend xs → (0 < length xs → low ≤ get_or xs 0 0) → Rising low xs
rising low [] up h = tt
rising low (x ∷ xs) up h = (h (omega arith), rising (x + 1) xs (Ascend-tail x xs up) (λ lt. let e : x < get_or xs 0 0 = up 0 0 (omega arith) in omega arith))

pub lower : (low high : ℕ) (xs : List ℕ) → low ≤ high → Rising high xs → Rising low xs
lower low high [] le h = tt
lower low high (x ∷ xs) le h = (omega (arith, h.0), h.1)

pub above : (low : ℕ) (xs : List ℕ) → Rising low xs → All (λ x. low ≤ x) xs
above low [] h = All-nil (λ x. low ≤ x)
above low (x ∷ xs) h = All-cons (λ x. low ≤ x) x xs h.0 (above low xs (lower low (x + 1) xs (omega (arith, h.0)) h.1))

pub Ascend-take : (n : ℕ) (xs : List ℕ) → n ≤ length xs → Ascend xs → Ascend (take n xs)
Ascend-take n xs le up k d within =
    let len = length-take n xs in
    rw (get_or-take n xs k d (omega arith), get_or-take n xs (k + 1) d (omega arith)) (up k d (omega arith))

pub Ascend-drop : (n : ℕ) (xs : List ℕ) → Ascend xs → Ascend (drop n xs)
Ascend-drop n xs up k d within =
    let len = length-drop n xs in
    let e : n + (k + 1) ≡ (n + k) + 1 = omega arith in
    rw (get_or-drop n xs k d, get_or-drop n xs (k + 1) d, e) (up (n + k) d (omega arith))

among_below : (x row : ℕ) (xs : List ℕ) → x < row → is_among (x ∷ xs) row ≡ is_among xs row
among_below x row xs lt = rw (ne_eqb x row (λ e. absurd (omega arith))) refl

pub among_less : (bound row : ℕ) (xs : List ℕ) → All (λ x. x < bound) xs → bound ≤ row → is_among xs row ≡ false
among_less bound row xs h le = list_any_none (λ (index : ℕ). index == row) xs (λ k d lt. let less = h k d lt in ne_eqb (get_or xs k d) row (λ e. absurd (omega arith)))

pub among_more : (bound row : ℕ) (xs : List ℕ) → All (λ x. bound ≤ x) xs → row < bound → is_among xs row ≡ false
among_more bound row xs h lt = list_any_none (λ (index : ℕ). index == row) xs (λ k d in'. let more = h k d in' in ne_eqb (get_or xs k d) row (λ e. absurd (omega arith)))

-- rows that ascend from a are those of the rows from a on that are among them
same_rows : (a n : ℕ) (xs : List ℕ) → Rising a xs → All (λ x. x < a + n) xs → filter (is_among xs) (range_with_len a n) ≡ xs
same_rows a zero [] up below = refl
same_rows a zero (x ∷ xs) up below = let small = below 0 0 (omega arith) in absurd (omega (arith, up.0))
same_rows a (suc n) [] up below = same_rows (a + 1) n [] tt (All-nil (λ x. x < (a + 1) + n))
same_rows a (suc n) (x ∷ xs) up below =
    elim (cases_eq x a) [
      | inl same ↦
          let here : is_among (x ∷ xs) a ≡ true = rw (eq-eqb x a same) refl in
          let apart : filter (is_among (x ∷ xs)) (range_with_len (a + 1) n) ≡ filter (is_among xs) (range_with_len (a + 1) n) = agree (is_among (x ∷ xs)) (is_among xs) (a + 1) n (λ row low high. among_below x row xs (omega arith)) in
          let rest = same_rows (a + 1) n xs (lower (a + 1) (x + 1) xs (omega arith) up.1) (λ k d lt. let e = below (suc k) d (omega arith) in omega arith) in
          rw here (rw (apart, rest) (ap (λ (y : ℕ). y ∷ xs) (sym same)))
      | inr other ↦
          let here : is_among (x ∷ xs) a ≡ false = among_more (a + 1) a (x ∷ xs) (above (a + 1) (x ∷ xs) (omega (arith, up.0), up.1)) (omega arith) in
          let rest = same_rows (a + 1) n (x ∷ xs) (omega (arith, up.0), up.1) (λ k d lt. let e = below k d lt in omega arith) in
          rw here rest
    ]

or_middle : (b c d : Bool) → b ≡ false → d ≡ false → ((b || c) || d) ≡ c
or_middle b true d e f = rw e refl
or_middle b false d e f = rw (e, f) refl

-- the part of rows that ascend between two bounds
pub within : (xs part : List ℕ) (start end i j : ℕ) → Ascend xs → i ≤ length xs → AllWithin (λ x. x < end) xs 0 i → AllWithin (λ x. end ≤ x) xs i (length xs)
    → AllWithin (λ x. x < start) (take i xs) 0 j → AllWithin (λ x. start ≤ x) (take i xs) j (length (take i xs)) → j ≤ length (take i xs)
    → drop j (take i xs) ≡ part → part ≡ filter (is_among xs) (rows_between start end)
within xs part start end i j up inside less more lower_less lower_more inside_front is =
    let front = take i xs in
    let long = length-take i xs in
    let long_part = length-drop j front in
    let long_front = length-take j front in
    let part_from : All (λ x. start ≤ x) part = subst (All (λ x. start ≤ x)) is (λ k d lt. rw (get_or-drop j front k d) (lower_more (j + k) d (omega arith) (omega arith))) in
    let front_below : All (λ x. x < end) front = λ k d lt. rw (get_or-take i xs k d (omega arith)) (less k d (omega arith) (omega arith)) in
    let part_below : All (λ x. x < end) part = subst (All (λ x. x < end)) is (λ k d lt. rw (get_or-drop j front k d) (front_below (j + k) d (omega arith))) in
    let part_up : Ascend part = subst Ascend is (Ascend-drop j front (Ascend-take i xs inside up)) in
    let before_below : All (λ x. x < start) (take j front) = λ k d lt. rw (get_or-take j front k d (omega arith)) (lower_less k d (omega arith) (omega arith)) in
    let long_rest = length-drop i xs in
    let rest_more : All (λ x. end ≤ x) (drop i xs) = λ k d lt. rw (get_or-drop i xs k d) (more (i + k) d (omega arith) (omega arith)) in
    let whole : (take j front ++ part) ++ drop i xs ≡ xs = ap (λ (ys : List ℕ). (take j front ++ ys) ++ drop i xs) (sym is) ∙ ap (λ (ys : List ℕ). ys ++ drop i xs) (take-append-drop j front) ∙ take-append-drop i xs in
    let test : (row : ℕ) → start ≤ row → row < end → is_among xs row ≡ is_among part row = λ row low high.
    ap (λ (ys : List ℕ). is_among ys row) (sym whole) ∙ list_any-append (λ (index : ℕ). index == row) (take j front ++ part) (drop i xs) ∙ ap (λ (b : Bool). b || is_among (drop i xs) row) (list_any-append (λ (index : ℕ). index == row) (take j front) part)
    ∙ or_middle (is_among (take j front) row) (is_among part row) (is_among (drop i xs) row) (among_less start row (take j front) before_below low) (among_more end row (drop i xs) rest_more high) in
    let kept : filter (is_among part) (rows_between start end) ≡ part = same_rows start (end - start) part (rising start part part_up (λ lt. part_from 0 0 lt)) (λ k d lt. let a = part_from k d lt in let b = part_below k d lt in omega arith) in
    sym (agree_between (is_among xs) (is_among part) start end test ∙ kept)

pub parted : (bound : ℕ) (xs : List ℕ) → Ascend xs → IsPartitionedBy (λ (x : ℕ). ltb x bound) xs
parted bound xs up = IsPartitionedBy-ltb (λ (x : ℕ). x) xs bound (IsNonDecreasingBy-from_all_adjacent (λ (x : ℕ). x) xs (λ k d lt. let h = up k d lt in omega arith))
