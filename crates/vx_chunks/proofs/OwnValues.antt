-- Of the whole values that a worker made, those that a chunk asks for.
use Rattle.std.proofs.Common.{◌≡◌, ◌≢◌, ℕ, ◌+◌, ◌<◌, ⊎_elim, List, [], ◌∷◌, ◌++◌, Option, Some, None, length, map, refl, sym, ap, ◌∙◌, subst, arith, suc, inl, inr}
use Rattle.std.specs.Prelude.{MatchOption}
use Rattle.std.specs.List.{slice_get}
use Rattle.std.proofs.lemmas.Bool.{cases_eq}
use Rattle.std.proofs.lemmas.Option.{slice_get_within}
use Rattle.vx_rows.specs.Reads.{IsAmong}
use Rattle.vx_plan.specs.declared.children.PlanRef.{PlanRef}
use Rattle.vx_plan.specs.Refs.{number_of}
use Rattle.vx_steps.specs.Asked.{AreAskedPlans}
use Rattle.vx_steps.specs.Kept.{kept_at, IsKept}
use Rattle.vx_steps.specs.KeptData.{Kept}
use Rattle.vx_steps.proofs.Keeping.{kept_old}
use Rattle.vx_steps.proofs.KeptBehind.{kept_either, kept_last}
use Rattle.vx_splits.specs.declared.selected_rows.SelectedRows.{SelectedRows}
use Rattle.vx_drive.specs.declared.plans.ScanPlans.{ScanPlans}
use Rattle.vx_chunks.specs.KeptValues.{Gives}
use Rattle.vx_chunks.specs.Outcomes.{AreOwn}
use Rattle.vx_base.specs.Columns.{ColumnData}

-- which of the plans it is
pub asked_place : (asked : List PlanRef) (n : ℕ) → IsAmong n (map number_of asked) → (place : ℕ) × ((node : PlanRef) × (slice_get asked place ≡ Some node) × (number_of node ≡ n))
asked_place [] n among = absurd among
asked_place (node ∷ asked) n (inl here) = (0, (node, refl, here))
asked_place (node ∷ asked) n (inr later) =
    let rest : (place : ℕ) × ((other : PlanRef) × (slice_get asked place ≡ Some other) × (number_of other ≡ n)) = asked_place asked n later in
    (suc rest.0, rest.1)

-- some of the values that were made, among them those of the first plans that are asked for
pub record Owning (asked : List PlanRef) (made own : List Kept) (count : ℕ) : Type 0 where
  pub from : (n : ℕ) (column : ColumnData) → kept_at own n ≡ Some column → kept_at made n ≡ Some column
  pub there : (place : ℕ) (node : PlanRef) → slice_get asked place ≡ Some node → place < count → IsKept made (number_of node) → IsKept own (number_of node)

-- one plan more, of which none were made, or whose values stand behind the others
pub owning_next : (asked : List PlanRef) (made own more : List Kept) (count : ℕ) (node : PlanRef) → slice_get asked count ≡ Some node → Owning asked made own count → Gives (number_of node) made own more → Owning asked made more (count + 1)
owning_next asked made own more count node at so_far gives = of_found (kept_at made (number_of node)) refl gives
  where
    node_is : (other : PlanRef) (place : ℕ) → slice_get asked place ≡ Some other → place ≡ count → other ≡ node
    node_is other place here same = (let both : Some other ≡ Some node = sym here ∙ (ap (slice_get asked) same ∙ at) in cc)

    of_found : (found : Option ColumnData) → kept_at made (number_of node) ≡ found → MatchOption found (more ≡ own) (λ column. more ≡ own ++ record { node = number_of node; column = column } ∷ []) → Owning asked made more (count + 1)
    of_found None is same = record {
      from = λ n column here. so_far.from n column (sym (ap (λ (ks : List Kept). kept_at ks n) same) ∙ here);
      there = λ place other here less kept.
          ⊎_elim
          (λ (last : place ≡ count). (let both : Some kept.0 ≡ None = sym kept.1 ∙ (ap (λ (one : PlanRef). kept_at made (number_of one)) (node_is other place here last) ∙ is) in absurd cc))
          (λ (differs : place ≢ count). subst (λ (ks : List Kept). IsKept ks (number_of other)) (sym same) (so_far.there place other here (omega (arith, less, differs)) kept))
          (cases_eq place count);
    }
    of_found (Some column) is longer =
        let last : Kept = record { node = number_of node; column = column } in
        record {
          from = λ n found here.
              ⊎_elim (λ (before_it : kept_at own n ≡ Some found). so_far.from n found before_it)
              (λ (same : (number_of node ≡ n) × (column ≡ found)). subst (λ (m : ℕ). kept_at made m ≡ Some found) same.0 (is ∙ ap Some same.1))
              (kept_either own last n found (sym (ap (λ (ks : List Kept). kept_at ks n) longer) ∙ here));
          there = λ place other here less kept.
              subst (λ (ks : List Kept). IsKept ks (number_of other)) (sym longer)
              (⊎_elim
              (λ (at_last : place ≡ count). subst (IsKept (own ++ last ∷ [])) (ap number_of (sym (node_is other place here at_last))) (kept_last own last))
              (λ (differs : place ≢ count). (let before_it : IsKept own (number_of other) = so_far.there place other here (omega (arith, less, differs)) kept in (before_it.0, kept_old own (last ∷ []) (number_of other) before_it.0 before_it.1)))
              (cases_eq place count));
        }

-- all that the chunk asks for are among them
pub own_all : (plans : ScanPlans) (chosen : SelectedRows) (asked same : List PlanRef) (made own : List Kept) (count : ℕ) → AreAskedPlans plans.table (number_of plans.projection) chosen.scope.rows.start chosen.mask (map number_of same) → asked ≡ same → length asked ≡ count → Owning asked made own count → AreOwn plans chosen made own
own_all plans chosen asked same made own count are is all so_far = record {
  from = so_far.from;
  asked = λ n asks kept.
      (let there : IsAmong n (map number_of same) = (are n).1 asks in
      let among : IsAmong n (map number_of asked) = subst (λ (nodes : List PlanRef). IsAmong n (map number_of nodes)) (sym is) there in
      let one : (place : ℕ) × ((node : PlanRef) × (slice_get asked place ≡ Some node) × (number_of node ≡ n)) = asked_place asked n among in
      let less = slice_get_within asked one.0 one.1.0 one.1.1 in
      subst (IsKept own) one.1.2 (so_far.there one.0 one.1.0 one.1.1 (omega (arith, less, all)) (subst (IsKept made) (sym one.1.2) kept)));
}
