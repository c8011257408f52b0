-- Lemmas on reports that are kept as counters.
use Rattle.std.proofs.Common.{◌≡◌, ℕ, ◌+◌, ◌-◌, ◌<◌, ◌≤◌, ◌≢◌, ◌^◌, zero, suc, List, [], ◌∷◌, ◌++◌, length, get_or, set, take, replicate, refl, sym, ap, ◌∙◌, arith, true, false, cond, inl, inr, subst}
use Rattle.std.specs.Prelude.{IsPermutation, nat_lt, sum}
use Rattle.std.specs.List.{AllByRecursion, Contains, insert, remove, prefix_len}
use Rattle.std.specs.List.Sorted.{IsNonDecreasing}
use Rattle.std.proofs.lemmas.Bool.{cases_lt, cases_eq, lt-ltb, le-ltb, ltb-true}
use Rattle.std.proofs.lemmas.List.{append_assoc, length-append, length-replicate, get_or_append_left, get_or-append_right, get_or-replicate, get_or_default, length-set, get_or-set_same, set-set, set-get_or}
use Rattle.std.proofs.lemmas.List.Edits.{length-insert, length-remove}
use Rattle.std.proofs.lemmas.List.Elements.{All-from_recursion, recursion_from_All, All-contains}
use Rattle.std.proofs.lemmas.List.Sorted.{IsNonDecreasingBy-insert, IsNonDecreasingBy-drop, IsPermutation-refl, IsPermutation-sym, IsPermutation-cons, IsPermutation-trans, IsPermutation-middle, Contains-permutation}
use Rattle.std.proofs.lemmas.List.Sums.{sum_by-cons, sum_by-set, sum_by-take-le, sum_by_more, prefix_len-le-length, prefix_len_passes}
use Rattle.vx_expr.specs.Filters.{counted_reports, with_report, without_report, AreCounters}

-- ---- what holds of each number of a list
all_append : (P : ℕ → Type 0) (xs ys : List ℕ) → AllByRecursion P xs → AllByRecursion P ys → AllByRecursion P (xs ++ ys)
all_append P [] ys p q = q
all_append P (x ∷ xs) ys p q = (p.0, all_append P xs ys p.1 q)

all_replicate : (P : ℕ → Type 0) (n x : ℕ) → P x → AllByRecursion P (replicate n x)
all_replicate P zero x p = tt
all_replicate P (suc n) x p = (p, all_replicate P n x p)

all_weaker : (P Q : ℕ → Type 0) → ((x : ℕ) → P x → Q x) → (xs : List ℕ) → AllByRecursion P xs → AllByRecursion Q xs
all_weaker P Q w [] p = tt
all_weaker P Q w (x ∷ xs) p = (w x p.0, all_weaker P Q w xs p.1)

-- ---- one report more of ascending reports
-- those below it stay before it
pub with_behind : (p : ℕ) (xs ys : List ℕ) → AllByRecursion (λ r. r < p) xs → with_report p (xs ++ ys) ≡ xs ++ with_report p ys
with_behind p [] ys all = refl
with_behind p (x ∷ xs) ys all = rw (lt-ltb x p all.0) (ap (λ (l : List ℕ). x ∷ l) (with_behind p xs ys all.1))

-- it stands before the first that is no less
pub with_front : (p : ℕ) (xs : List ℕ) → AllByRecursion (λ r. p ≤ r) xs → with_report p xs ≡ p ∷ xs
with_front p [] all = refl
with_front p (x ∷ xs) all = rw (le-ltb x p all.0) refl

-- the reports are the old ones and it
pub with_permuted : (p : ℕ) (xs : List ℕ) → IsPermutation (p ∷ xs) (with_report p xs)
with_permuted p [] = IsPermutation-refl (p ∷ [])
with_permuted p (x ∷ xs) = elim (nat_lt x p) as (λ b. IsPermutation (p ∷ x ∷ xs) (cond b (x ∷ with_report p xs) (p ∷ x ∷ xs))) [
  | true ↦ IsPermutation-trans (p ∷ x ∷ xs) (x ∷ p ∷ xs) (x ∷ with_report p xs) (IsPermutation-sym (x ∷ p ∷ xs) (p ∷ x ∷ xs) (IsPermutation-middle (x ∷ []) p xs)) (IsPermutation-cons x (p ∷ xs) (with_report p xs) (with_permuted p xs))
  | false ↦ IsPermutation-refl (p ∷ x ∷ xs)
]

-- it is there
pub with_contains : (p : ℕ) (xs : List ℕ) → Contains (with_report p xs) p
with_contains p xs = Contains-permutation (p ∷ xs) (with_report p xs) p (with_permuted p xs) (0, omega arith, refl)

-- what holds of it and of the old ones
all_with : (P : ℕ → Type 0) (p : ℕ) (xs : List ℕ) → P p → AllByRecursion P xs → AllByRecursion P (with_report p xs)
all_with P p [] one all = (one, tt)
all_with P p (x ∷ xs) one all = elim (nat_lt x p) as (λ b. AllByRecursion P (cond b (x ∷ with_report p xs) (p ∷ x ∷ xs))) [
  | true ↦ (all.0, all_with P p xs one all.1)
  | false ↦ (one, all)
]

-- a number before ascending ones that are no less
rises_cons : (x : ℕ) (xs : List ℕ) → AllByRecursion (λ r. x ≤ r) xs → IsNonDecreasing xs → IsNonDecreasing (x ∷ xs)
rises_cons x xs all up = IsNonDecreasingBy-insert (λ y. y) xs 0 x up (omega arith) (λ k d lt. absurd (omega arith)) (λ k d le lt. All-from_recursion (λ r. x ≤ r) xs all k d lt)

rises_head : (x : ℕ) (xs : List ℕ) → IsNonDecreasing (x ∷ xs) → AllByRecursion (λ r. x ≤ r) xs
rises_head x xs up = recursion_from_All (λ r. x ≤ r) xs (λ k d lt. up 0 (suc k) d (omega arith) (omega arith))

-- they ascend as before
pub with_rises : (p : ℕ) (xs : List ℕ) → IsNonDecreasing xs → IsNonDecreasing (with_report p xs)
with_rises p [] up = rises_cons p [] tt up
with_rises p (x ∷ xs) up =
    let head = rises_head x xs up in
    elim (cases_lt x p) [
      | inl lt ↦ rw (lt-ltb x p lt) (rises_cons x (with_report p xs) (all_with (λ r. x ≤ r) p xs (omega arith) head) (with_rises p xs (IsNonDecreasingBy-drop (λ y. y) 1 (x ∷ xs) up)))
      | inr le ↦ rw (le-ltb x p le) (rises_cons p (x ∷ xs) (le, all_weaker (λ r. x ≤ r) (λ r. p ≤ r) (λ r h. omega arith) xs head) up)
    ]

-- without it they are the old ones
pub without_with : (p : ℕ) (xs : List ℕ) → without_report p (with_report p xs) ≡ xs
without_with p [] = rw (le-ltb p p (omega arith)) refl
without_with p (x ∷ xs) = elim (cases_lt x p) [
  | inl lt ↦ rw (lt-ltb x p lt, lt-ltb x p lt) (ap (λ (l : List ℕ). x ∷ l) (without_with p xs))
  | inr le ↦ rw (le-ltb x p le, le-ltb p p (omega arith)) refl
]

-- ---- the counters
-- each report is of a permille from the first on
counted_from : (low first : ℕ) (counts : List ℕ) → low ≤ first → AllByRecursion (λ r. low ≤ r) (counted_reports first counts)
counted_from low first [] le = tt
counted_from low first (c ∷ cs) le = all_append (λ r. low ≤ r) (replicate c first) (counted_reports (first + 1) cs) (all_replicate (λ r. low ≤ r) c first le) (counted_from low (first + 1) cs (omega arith))

-- and below the last
pub counted_below : (high first : ℕ) (counts : List ℕ) → first + length counts ≤ high → AllByRecursion (λ r. r < high) (counted_reports first counts)
counted_below high first [] le = tt
counted_below high first (c ∷ cs) le = all_append (λ r. r < high) (replicate c first) (counted_reports (first + 1) cs) (all_replicate (λ r. r < high) c first (omega arith)) (counted_below high (first + 1) cs (omega arith))

-- counters of nothing count no reports
pub counted_none : (n first : ℕ) → counted_reports first (replicate n 0) ≡ []
counted_none zero first = refl
counted_none (suc n) first = counted_none n (first + 1)

-- there are as many reports as the counters count
pub counted_length : (first : ℕ) (counts : List ℕ) → length (counted_reports first counts) ≡ sum counts
counted_length first [] = refl
counted_length first (c ∷ cs) = omega (arith, length-append (replicate c first) (counted_reports (first + 1) cs), length-replicate c first, counted_length (first + 1) cs, sum_by-cons (λ x. x) c cs)

-- one more at its permille is one report more
pub counts_one_more : (counts above : List ℕ) (first i : ℕ) → i < length counts → AllByRecursion (λ r. first + length counts ≤ r) above → with_report (first + i) (counted_reports first counts ++ above) ≡ counted_reports first (set counts i (get_or counts i 0 + 1)) ++ above
counts_one_more [] above first i within higher = absurd (omega arith)
counts_one_more (c ∷ cs) above first zero within higher =
    let rest : List ℕ = (replicate c first ++ counted_reports (first + 1) cs) ++ above in
    let all : AllByRecursion (λ r. first ≤ r) rest = all_append (λ r. first ≤ r) (replicate c first ++ counted_reports (first + 1) cs) above (counted_from first first (c ∷ cs) (omega arith)) (all_weaker (λ r. first + length (c ∷ cs) ≤ r) (λ r. first ≤ r) (λ r h. omega arith) above higher) in
    let here : first + 0 ≡ first = omega arith in
    let more : c + 1 ≡ suc c = omega arith in
    rw (here, more) (with_front first rest all)
counts_one_more (c ∷ cs) above first (suc i) within higher =
    let next = counts_one_more cs above (first + 1) i (omega arith) (all_weaker (λ r. first + length (c ∷ cs) ≤ r) (λ r. (first + 1) + length cs ≤ r) (λ r h. omega arith) above higher) in
    let here : (first + 1) + i ≡ first + suc i = omega arith in
    let behind : AllByRecursion (λ r. r < first + suc i) (replicate c first) = all_replicate (λ r. r < first + suc i) c first (omega arith) in
    ap (with_report (first + suc i)) (append_assoc (replicate c first) (counted_reports (first + 1) cs) above) ∙ with_behind (first + suc i) (replicate c first) (counted_reports (first + 1) cs ++ above) behind ∙ ap (λ (l : List ℕ). replicate c first ++ l) (subst (λ (p : ℕ). with_report p (counted_reports (first + 1) cs ++ above) ≡ counted_reports (first + 1) (set cs i (get_or cs i 0 + 1)) ++ above) here next) ∙ sym (append_assoc (replicate c first) (counted_reports (first + 1) (set cs i (get_or cs i 0 + 1))) above)

-- the report at a place is the first permille at which the running sum passes it
pub counted_at : (counts : List ℕ) (first i place d : ℕ) → i < length counts → sum (take i counts) ≤ place → place < sum (take (i + 1) counts) → get_or (counted_reports first counts) place d ≡ first + i
counted_at [] first i place d within le lt = absurd (omega arith)
counted_at (c ∷ cs) first zero place d within le lt =
    let here : place < c = omega (arith, sum_by-cons (λ x. x) c []) in
    let inside : place < length (replicate c first) = omega (arith, length-replicate c first) in
    get_or_append_left (replicate c first) (counted_reports (first + 1) cs) d place inside ∙ get_or-replicate c place first d here ∙ omega arith
counted_at (c ∷ cs) first (suc i) place d within le lt =
    let front : c + sum (take i cs) ≤ place = omega (arith, sum_by-cons (λ x. x) c (take i cs)) in
    let turn : suc i + 1 ≡ suc (i + 1) = omega arith in
    let passed : place < sum (take (suc (i + 1)) (c ∷ cs)) = rw turn at lt in
    let passes : place < c + sum (take (i + 1) cs) = omega (arith, sum_by-cons (λ x. x) c (take (i + 1) cs), passed) in
    get_or-append_right (replicate c first) (counted_reports (first + 1) cs) c place d (length-replicate c first) (omega arith) ∙ counted_at cs (first + 1) i (place - c) d (omega arith) (omega arith) (omega arith) ∙ omega arith

-- where a counter counts none, no report is of its permille
counted_not : (counts : List ℕ) (first p : ℕ) → ((i : ℕ) → first + i ≡ p → get_or counts i 0 ≡ 0) → AllByRecursion (λ r. r ≢ p) (counted_reports first counts)
counted_not [] first p none = tt
counted_not (c ∷ cs) first p none =
    let next = counted_not cs (first + 1) p (λ i e. none (suc i) (omega arith)) in
    elim (cases_eq first p) [
      | inl e ↦ (let zero_count : c ≡ 0 = none 0 (omega arith) in rw zero_count next)
      | inr ne ↦ all_append (λ r. r ≢ p) (replicate c first) (counted_reports (first + 1) cs) (all_replicate (λ r. r ≢ p) c first ne) next
    ]

-- what the counters count is how many reports there are
pub counters_length : (counts above : List ℕ) (total : ℕ) → AreCounters counts above total → total ≡ length (counted_reports 0 counts ++ above)
counters_length counts above total are = omega (arith, are.summed, length-append (counted_reports 0 counts) above, counted_length 0 counts)

-- counters that count no reports
pub no_counters : (counts : List ℕ) → length counts ≡ 1001 → counted_reports 0 counts ≡ [] → AreCounters counts [] 0
no_counters counts each none = record {
  permilles = each;
  beyond = tt;
  summed = omega (arith, counted_length 0 counts, ap length none);
  fits = omega arith;
}

-- there is room for one more where they aren't as many as a number counts
pub room : (counts above : List ℕ) (total : ℕ) → AreCounters counts above total → length (counted_reports 0 counts ++ above) ≢ 2 ^ 64 - 1 → total + 1 < 2 ^ 64
room counts above total are fewer = omega (arith, are.fits, counters_length counts above total are)

-- a running sum is at most the whole
pub sum_within : (counts above : List ℕ) (total i d : ℕ) → AreCounters counts above total → i < length counts → sum (take i counts) + get_or counts i d ≤ total
sum_within counts above total i d are within = omega (arith, are.summed, sum_by_more (λ x. x) counts i d within, sum_by-take-le (λ x. x) counts (i + 1))

-- the report at a place that the running sum passes at a permille
pub report_here : (counts above : List ℕ) (i place d : ℕ) → i < length counts → sum (take i counts) ≤ place → place < sum (take i counts) + get_or counts i d → get_or (counted_reports 0 counts ++ above) place 0 ≡ i
report_here counts above i place d within le lt =
    let more = sum_by_more (λ x. x) counts i d within in
    let inside : place < length (counted_reports 0 counts) = omega (arith, more, sum_by-take-le (λ x. x) counts (i + 1), counted_length 0 counts) in
    get_or_append_left (counted_reports 0 counts) above 0 place inside ∙ counted_at counts 0 i place 0 within le (omega (arith, more)) ∙ omega arith

-- the report at a place past all counters
pub report_above : (counts above : List ℕ) (place : ℕ) → sum counts ≤ place → get_or (counted_reports 0 counts ++ above) place 0 ≡ get_or above (place - sum counts) 0
report_above counts above place le = get_or-append_right (counted_reports 0 counts) above (sum counts) place 0 (counted_length 0 counts) le

-- ---- one report more or less
-- a counter of a permille counts one more
pub counter_more : (counts above : List ℕ) (total p c : ℕ) → AreCounters counts above total → p ≤ 1000 → c ≡ get_or counts p c → total + 1 < 2 ^ 64 → (counted_reports 0 (set counts p (c + 1)) ++ above ≡ with_report p (counted_reports 0 counts ++ above)) × AreCounters (set counts p (c + 1)) above (total + 1)
counter_more counts above total p c are low read fits =
    let within : p < length counts = omega (arith, are.permilles) in
    let count : get_or counts p 0 ≡ c = get_or_default counts p 0 c within ∙ sym read in
    let higher : AllByRecursion (λ r. 0 + length counts ≤ r) above = all_weaker (λ r. 1000 < r) (λ r. 0 + length counts ≤ r) (λ r h. omega (arith, are.permilles)) above are.beyond in
    let here : 0 + p ≡ p = omega arith in
    let more : with_report p (counted_reports 0 counts ++ above) ≡ counted_reports 0 (set counts p (c + 1)) ++ above = rw (here, count) at (counts_one_more counts above 0 p within higher) in (
      sym more,
      record {
        permilles = length-set counts p (c + 1) ∙ are.permilles;
        beyond = are.beyond;
        summed = omega (arith, are.summed, sum_by-set (λ x. x) counts p (c + 1) 0 within, count);
        fits = fits;
      },
    )

-- one report more above the counters
insert_with : (p : ℕ) (xs : List ℕ) → insert xs (prefix_len (λ r. nat_lt r p) xs) p ≡ with_report p xs
insert_with p [] = refl
insert_with p (x ∷ xs) = elim (nat_lt x p) as (λ b. insert (x ∷ xs) (cond b (1 + prefix_len (λ r. nat_lt r p) xs) 0) p ≡ cond b (x ∷ with_report p xs) (p ∷ x ∷ xs)) [
  | true ↦ (let turn : 1 + prefix_len (λ r. nat_lt r p) xs ≡ suc (prefix_len (λ r. nat_lt r p) xs) = omega arith in rw turn (ap (λ (l : List ℕ). x ∷ l) (insert_with p xs)))
  | false ↦ refl
]

pub higher_more : (counts above : List ℕ) (total p place : ℕ) → AreCounters counts above total → 1000 < p → place ≡ prefix_len (λ r. nat_lt r p) above → total + 1 < 2 ^ 64 → (counted_reports 0 counts ++ insert above place p ≡ with_report p (counted_reports 0 counts ++ above)) × AreCounters counts (insert above place p) (total + 1)
higher_more counts above total p place are high is fits =
    let low : AllByRecursion (λ r. r < p) (counted_reports 0 counts) = counted_below p 0 counts (omega (arith, are.permilles)) in
    let within : place ≤ length above = omega (arith, prefix_len-le-length (λ r. nat_lt r p) above) in
    let same : insert above place p ≡ with_report p above = rw is (insert_with p above) in (
      rw same (sym (with_behind p (counted_reports 0 counts) above low)),
      record {
        permilles = are.permilles;
        beyond = rw same (all_with (λ r. 1000 < r) p above high are.beyond);
        summed = omega (arith, are.summed, length-insert above place p within);
        fits = fits;
      },
    )

-- a report that is there has been counted
pub counter_some : (counts above : List ℕ) (total p c : ℕ) → AreCounters counts above total → p ≤ 1000 → c ≡ get_or counts p c → Contains (counted_reports 0 counts ++ above) p → 1 ≤ c
counter_some counts above total p c are low read has =
    let within : p < length counts = omega (arith, are.permilles) in
    let count : get_or counts p 0 ≡ c = get_or_default counts p 0 c within ∙ sym read in
    elim (cases_lt 0 c) [
      | inl lt ↦ omega arith
      | inr le ↦ (let none : c ≡ 0 = omega arith in
          let lower = counted_not counts 0 p (λ i e. (let at : i ≡ p = omega arith in rw at (count ∙ none))) in
          let higher = all_weaker (λ r. 1000 < r) (λ r. r ≢ p) (λ r h e. omega arith) above are.beyond in
          absurd (All-contains (λ r. r ≢ p) (counted_reports 0 counts ++ above) p (All-from_recursion (λ r. r ≢ p) (counted_reports 0 counts ++ above) (all_append (λ r. r ≢ p) (counted_reports 0 counts) above lower higher)) has refl))
    ]

-- so that the counter can count one less
pub counter_less : (counts above : List ℕ) (total p c : ℕ) → AreCounters counts above total → p ≤ 1000 → c ≡ get_or counts p c → 1 ≤ c → (counted_reports 0 (set counts p (c - 1)) ++ above ≡ without_report p (counted_reports 0 counts ++ above)) × AreCounters (set counts p (c - 1)) above (total - 1)
counter_less counts above total p c are low read some =
    let within : p < length counts = omega (arith, are.permilles) in
    let count : get_or counts p 0 ≡ c = get_or_default counts p 0 c within ∙ sym read in
    let summed = sum_by-set (λ x. x) counts p (c - 1) 0 within in
    let less : AreCounters (set counts p (c - 1)) above (total - 1) = record {
      permilles = length-set counts p (c - 1) ∙ are.permilles;
      beyond = are.beyond;
      summed = omega (arith, are.summed, summed, count, some);
      fits = omega (arith, are.fits);
    } in
    let again = counter_more (set counts p (c - 1)) above (total - 1) p (c - 1) less low (sym (get_or-set_same counts p (c - 1) (c - 1) within)) (omega (arith, are.fits, are.summed, summed, some, count)) in
    let turn : (c - 1) + 1 ≡ c = omega arith in
    let back : set (set counts p (c - 1)) p ((c - 1) + 1) ≡ counts = set-set counts p (c - 1) ((c - 1) + 1) ∙ ap (λ (y : ℕ). set counts p y) (turn ∙ sym count) ∙ set-get_or counts p 0 in
    let was : counted_reports 0 counts ++ above ≡ with_report p (counted_reports 0 (set counts p (c - 1)) ++ above) = rw back at again.0 in
    (rw was (sym (without_with p (counted_reports 0 (set counts p (c - 1)) ++ above))), less)

-- one report less above the counters
remove_without : (p : ℕ) (xs : List ℕ) → remove xs (prefix_len (λ r. nat_lt r p) xs) ≡ without_report p xs
remove_without p [] = refl
remove_without p (x ∷ xs) = elim (nat_lt x p) as (λ b. remove (x ∷ xs) (cond b (1 + prefix_len (λ r. nat_lt r p) xs) 0) ≡ cond b (x ∷ without_report p xs) xs) [
  | true ↦ (let turn : 1 + prefix_len (λ r. nat_lt r p) xs ≡ suc (prefix_len (λ r. nat_lt r p) xs) = omega arith in rw turn (ap (λ (l : List ℕ). x ∷ l) (remove_without p xs)))
  | false ↦ refl
]

without_behind : (p : ℕ) (xs ys : List ℕ) → AllByRecursion (λ r. r < p) xs → without_report p (xs ++ ys) ≡ xs ++ without_report p ys
without_behind p [] ys all = refl
without_behind p (x ∷ xs) ys all = rw (lt-ltb x p all.0) (ap (λ (l : List ℕ). x ∷ l) (without_behind p xs ys all.1))

all_without : (P : ℕ → Type 0) (p : ℕ) (xs : List ℕ) → AllByRecursion P xs → AllByRecursion P (without_report p xs)
all_without P p [] all = tt
all_without P p (x ∷ xs) all = elim (nat_lt x p) as (λ b. AllByRecursion P (cond b (x ∷ without_report p xs) xs)) [
  | true ↦ (all.0, all_without P p xs all.1)
  | false ↦ all.1
]

-- where each is below it
all_below : (p : ℕ) (xs : List ℕ) → length xs ≤ prefix_len (λ r. nat_lt r p) xs → AllByRecursion (λ r. r < p) xs
all_below p xs le = recursion_from_All (λ r. r < p) xs (λ k d lt. ltb-true (get_or xs k d) p (prefix_len_passes (λ r. nat_lt r p) xs k d (omega arith)))

pub higher_some : (counts above : List ℕ) (total p place : ℕ) → AreCounters counts above total → 1000 < p → place ≡ prefix_len (λ r. nat_lt r p) above → Contains (counted_reports 0 counts ++ above) p → place < length above
higher_some counts above total p place are high is has = elim (cases_lt place (length above)) [
  | inl lt ↦ lt
  | inr le ↦ (let lower = all_weaker (λ r. r < p) (λ r. r ≢ p) (λ r h e. omega arith) (counted_reports 0 counts) (counted_below p 0 counts (omega (arith, are.permilles))) in
      let higher = all_weaker (λ r. r < p) (λ r. r ≢ p) (λ r h e. omega arith) above (all_below p above (omega arith)) in
      absurd (All-contains (λ r. r ≢ p) (counted_reports 0 counts ++ above) p (All-from_recursion (λ r. r ≢ p) (counted_reports 0 counts ++ above) (all_append (λ r. r ≢ p) (counted_reports 0 counts) above lower higher)) has refl))
]

pub higher_less : (counts above : List ℕ) (total p place : ℕ) → AreCounters counts above total → 1000 < p → place ≡ prefix_len (λ r. nat_lt r p) above → place < length above → (counted_reports 0 counts ++ remove above place ≡ without_report p (counted_reports 0 counts ++ above)) × AreCounters counts (remove above place) (total - 1)
higher_less counts above total p place are high is within =
    let low : AllByRecursion (λ r. r < p) (counted_reports 0 counts) = counted_below p 0 counts (omega (arith, are.permilles)) in
    let same : remove above place ≡ without_report p above = rw is (remove_without p above) in (
      rw same (sym (without_behind p (counted_reports 0 counts) above low)),
      record {
        permilles = are.permilles;
        beyond = rw same (all_without (λ r. 1000 < r) p above are.beyond);
        summed = omega (arith, are.summed, length-remove above place within);
        fits = omega (arith, are.fits);
      },
    )

-- where there is a report the sum isn't 0
pub some_counted : (counts above : List ℕ) (total p : ℕ) → AreCounters counts above total → Contains (counted_reports 0 counts ++ above) p → 1 ≤ total
some_counted counts above total p are has = omega (arith, counters_length counts above total are, has.1)

-- a counter counts at most all
pub counter_within : (counts above : List ℕ) (total p c : ℕ) → AreCounters counts above total → p ≤ 1000 → c ≡ get_or counts p c → c ≤ total
counter_within counts above total p c are low read =
    let within : p < length counts = omega (arith, are.permilles) in
    omega (arith, sum_within counts above total p c are within, read)
