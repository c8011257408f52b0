-- Lemmas on the reports of a filter's conjuncts.
use Rattle.std.proofs.Common.{◌≡◌, ℕ, ◌+◌, ◌-◌, ◌^◌, ◌<◌, ◌≢◌, zero, suc, List, [], ◌∷◌, length, get_or, set, replicate, refl, sym, ap, ◌∙◌, arith, true, false, eqb, Result, Ok, Err, Bor, inl, inr}
use Rattle.std.specs.Prelude.{IsPermutation, MatchBool, Bool, ⊤, OnOk, slice_get, slice_set, nat_lt}
use Rattle.std.specs.Bool.{OnTrue}
use Rattle.std.specs.List.{AllByRecursion, Contains, range_with_len}
use Rattle.std.specs.List.Sorted.{IsNonDecreasing, IsSortedByKey, IsSortedByKeyClosure, IsStableByKeyClosure}
use Rattle.std.specs.Ordering.{nat_cmp}
use Rattle.std.specs.Fn.{Called, ComputesKey}
use denote.Param.Members.{Mut}
use Rattle.std.proofs.lemmas.Bool.{ne_eqb, lt-ltb, cases_eq, OnTrue_at, OnTrue_from}
use Rattle.std.proofs.lemmas.Fn.{always_returns_same}
use Rattle.std.proofs.lemmas.List.{get_or_read, length-set, get_or-set_same, get_or-set_other, set-set, set-get_or}
use Rattle.std.proofs.lemmas.List.Elements.{All-from_recursion, recursion_from_All, All-set}
use Rattle.std.proofs.lemmas.List.Recursion.{and_set}
use Rattle.std.proofs.lemmas.List.Sorted.{IsPermutation-refl, IsPermutation-trans}
use Rattle.vx_expr.specs.Filters.{IsStablySorted, FilterData, IsFilter, AddsReport, IsReordered, IsOrderedByReports, KeepsQuantile, TakesReport, reports_of, are_reported, quantile, quantile_of, with_report, without_report}
use Rattle.vx_expr.proofs.ReportCounts.{with_permuted, with_rises, with_contains, without_with}

-- a stable sort by a key that the closure computes
pub stably_sorted : (n : ℕ → ℕ) {F : Type 0} {g : Mut F (Bor ℕ × Unit {0}) ℕ} {f : F} {E : Type 0} (r : Result (Unit {0}) E) (old new : List ℕ) → IsPermutation old new → OnOk r (IsSortedByKeyClosure g nat_cmp f new) → IsStableByKeyClosure g nat_cmp f old new → ((a : Bor ℕ × Unit {0}) (r : ℕ) (f' : F) → Called g f a r f' → (r ≡ n a.0.now) × (f' ≡ f)) → OnOk r (IsStablySorted n old new)
stably_sorted n {F} {g} {f} (Ok u) old new permuted sorted stable calls =
    let key : ComputesKey g n f = always_returns_same g (λ a r. r ≡ n a.0.now) f calls in
    record { permuted = permuted; sorted = sorted n key; stable = stable n key }
stably_sorted n (Err e) old new permuted sorted stable calls = tt

-- a write leaves the other elements
slice_get_beside : (xs : List (List ℕ)) (i j : ℕ) (v : List ℕ) → j ≢ i → slice_get (slice_set xs i v) j ≡ slice_get xs j
slice_get_beside [] i j v ne = refl
slice_get_beside (x ∷ xs) zero zero v ne = absurd (ne refl)
slice_get_beside (x ∷ xs) zero (suc j) v ne = refl
slice_get_beside (x ∷ xs) (suc i) zero v ne = refl
slice_get_beside (x ∷ xs) (suc i) (suc j) v ne = slice_get_beside xs i j v (λ e. ne (ap suc e))

-- the order is kept until each conjunct has a report
pub not_reordered : (reports : List (List ℕ)) (ordering : List ℕ) → are_reported reports ≡ false → IsReordered reports ordering ordering
not_reordered reports ordering e = rw e refl

-- once each has one it is sorted
pub reordered : (reports : List (List ℕ)) (old new : List ℕ) → are_reported reports ≡ true → IsStablySorted (quantile_of reports) old new → IsReordered reports old new
reordered reports old new e sorted = rw e sorted

-- it isn't sorted before that
pub not_sorted : (reports : List (List ℕ)) (ordering : List ℕ) → are_reported reports ≡ false → IsOrderedByReports reports ordering
not_sorted reports ordering e = rw e tt

-- a conjunct has fewer reports than the most where its number differs
pub is_fewer : (reports : List (List ℕ)) (conjunct : ℕ) (one : List ℕ) (count : ℕ) → conjunct < length reports → one ≡ get_or reports conjunct one → count ≡ length one → count ≢ 2 ^ 64 - 1 → length (reports_of reports conjunct) ≢ 2 ^ 64 - 1
is_fewer reports conjunct one count within is counted fewer e = fewer (counted ∙ ap length (get_or_read reports conjunct one within is []) ∙ e)

-- then it is sorted
pub now_sorted : (reports : List (List ℕ)) (old new : List ℕ) → IsStablySorted (quantile_of reports) old new → IsOrderedByReports reports new
now_sorted reports old new sorted = OnTrue_from (are_reported reports) (IsSortedByKey (quantile_of reports) nat_cmp new) (λ e. sorted.sorted)

-- what is known of a quantile that didn't change
pub unchanged_quantile : (changed : Bool) (old new : List ℕ) → changed ≡ false → MatchBool changed ⊤ (KeepsQuantile old new) → KeepsQuantile old new
unchanged_quantile true old new e kept = absurd cc
unchanged_quantile false old new e kept = kept

-- the first ordering of conjuncts without reports
pub first_sorted : (count : ℕ) → IsOrderedByReports (replicate count []) (range_with_len 0 count)
first_sorted zero = λ k d le lt. absurd (omega arith)
first_sorted (suc count) = tt

-- ---- one report more of a conjunct
module _ (old : FilterData) (conjunct permille : ℕ) (more : List (List ℕ)) (is : IsFilter old) (within : conjunct < length old.conjuncts) (added : more ≡ slice_set old.reports conjunct (with_report permille (reports_of old.reports conjunct))) where
  inside : conjunct < length old.reports
  inside = omega (arith, is.counted)

  there : reports_of more conjunct ≡ with_report permille (reports_of old.reports conjunct)
  there = rw added (get_or-set_same old.reports conjunct (with_report permille (reports_of old.reports conjunct)) [] inside)

  beside : (other : ℕ) → other ≢ conjunct → reports_of more other ≡ reports_of old.reports other
  beside other ne = rw added (get_or-set_other old.reports conjunct other (with_report permille (reports_of old.reports conjunct)) [] ne)

  rises : AllByRecursion IsNonDecreasing more
  rises =
      let all = All-from_recursion IsNonDecreasing old.reports is.ascending in
      rw added (recursion_from_All IsNonDecreasing (set old.reports conjunct (with_report permille (reports_of old.reports conjunct))) (All-set IsNonDecreasing old.reports conjunct (with_report permille (reports_of old.reports conjunct)) (with_rises permille (reports_of old.reports conjunct) (all conjunct [] inside)) all))

  -- the reports are as before once the one that was added is taken back
  pub taken_back : (less : List (List ℕ)) → less ≡ slice_set more conjunct (without_report permille (reports_of more conjunct)) → less ≡ old.reports
  taken_back less taken =
      let gone : without_report permille (reports_of more conjunct) ≡ reports_of old.reports conjunct = rw there (without_with permille (reports_of old.reports conjunct)) in
      rw (taken, gone, added) (set-set old.reports conjunct (with_report permille (reports_of old.reports conjunct)) (reports_of old.reports conjunct) ∙ set-get_or old.reports conjunct [])

  -- the report that was added is there
  pub can_take_back : (conjunct < length more) × Contains (reports_of more conjunct) permille
  can_take_back = (omega (arith, ap length added, length-set old.reports conjunct (with_report permille (reports_of old.reports conjunct)), inside), rw there (with_contains permille (reports_of old.reports conjunct)))

  -- a conjunct that has fewer reports than the most takes it
  pub takes_report : (next : List ℕ) → length (reports_of old.reports conjunct) ≢ 2 ^ 64 - 1 → IsReordered more old.ordering next → TakesReport old conjunct permille (record { conjuncts = old.conjuncts; reports = more; ordering = next })
  takes_report next fewer ordered =
      let adds : AddsReport old conjunct permille (record { conjuncts = old.conjuncts; reports = more; ordering = next }) = record {
        conjuncts = refl;
        others = λ other ne. rw added (slice_get_beside old.reports conjunct other (with_report permille (reports_of old.reports conjunct)) ne);
        added = rw there (with_permuted permille (reports_of old.reports conjunct));
        ascending = All-from_recursion IsNonDecreasing more rises conjunct [] can_take_back.0;
        ordered = ordered;
      } in
      let fails : eqb (length (reports_of old.reports conjunct)) (2 ^ 64 - 1) ≡ false = ne_eqb (length (reports_of old.reports conjunct)) (2 ^ 64 - 1) fewer in
      rw fails adds

  -- it stays a filter
  pub keeps_filter : (next : List ℕ) → IsPermutation old.ordering next → IsOrderedByReports more next → IsFilter (record { conjuncts = old.conjuncts; reports = more; ordering = next })
  keeps_filter next permuted sorted = record {
    truths = is.truths;
    counted = ap length added ∙ length-set old.reports conjunct (with_report permille (reports_of old.reports conjunct)) ∙ is.counted;
    ascending = rises;
    ordered = IsPermutation-trans (range_with_len 0 (length old.conjuncts)) old.ordering next is.ordered permuted;
    sorted = sorted;
  }

  -- the quantiles are as before where that of the conjunct is
  same_quantiles : quantile (reports_of more conjunct) ≡ quantile (reports_of old.reports conjunct) → (other : ℕ) → quantile_of more other ≡ quantile_of old.reports other
  same_quantiles same other = elim (cases_eq other conjunct) [
    | inl e ↦ rw e same
    | inr ne ↦ ap quantile (beside other ne)
  ]

  -- each conjunct had a report where this one had, and all have now
  were_reported : 0 < length (reports_of old.reports conjunct) → are_reported more ≡ true → are_reported old.reports ≡ true
  were_reported some e =
      let back : set more conjunct (reports_of old.reports conjunct) ≡ old.reports = rw added (set-set old.reports conjunct (with_report permille (reports_of old.reports conjunct)) (reports_of old.reports conjunct) ∙ set-get_or old.reports conjunct []) in
      ap are_reported (sym back) ∙ and_set are_reported (λ one. nat_lt 0 (length one)) refl (λ _ _. refl) more conjunct (reports_of old.reports conjunct) (lt-ltb 0 (length (reports_of old.reports conjunct)) some) e

  -- the ordering is sorted still where the quantile is as before
  pub still_sorted : KeepsQuantile (reports_of old.reports conjunct) (reports_of more conjunct) → IsOrderedByReports more old.ordering
  still_sorted kept = OnTrue_from (are_reported more) (IsSortedByKey (quantile_of more) nat_cmp old.ordering) (λ e.
      let sorted : IsSortedByKey (quantile_of old.reports) nat_cmp old.ordering = OnTrue_at {b = are_reported old.reports} (were_reported kept.reported e) is.sorted in
      let same = same_quantiles kept.same in
      λ k d le lt. rw (same (get_or old.ordering (k + 1) d), same (get_or old.ordering k d)) (sorted k d le lt))

  -- so that it need not be sorted again
  pub stays_ordered : KeepsQuantile (reports_of old.reports conjunct) (reports_of more conjunct) → IsReordered more old.ordering old.ordering
  stays_ordered kept = elim (are_reported more) as (λ b. OnTrue b (IsSortedByKey (quantile_of more) nat_cmp old.ordering) → MatchBool b (IsStablySorted (quantile_of more) old.ordering old.ordering) (old.ordering ≡ old.ordering)) [
    | true ↦ λ sorted. record { permuted = IsPermutation-refl old.ordering; sorted = sorted; stable = λ x. refl }
    | false ↦ λ sorted. refl
  ] (still_sorted kept)
