-- Whole values of several plans: those that a chunk borrowed, and all that it asks for.
use Rattle.std.proofs.Common.{Bor, ◌≡◌, ◌≢◌, ℕ, zero, suc, ◌+◌, ◌<◌, ◌⊎◌, inl, inr, ⊎_elim, true, false, List, [], ◌∷◌, ◌++◌, Option, Some, None, Result, length, map, refl, sym, ap, ◌∙◌, subst, arith}
use Rattle.std.specs.Prelude.{is_some, option_copied, slice_index_or, IsSomeAnd, MatchOption}
use Rattle.std.specs.List.{slice_get, All}
use Rattle.std.proofs.lemmas.Bool.{cases_eq}
use Rattle.std.proofs.lemmas.List.Elements.{All-head, All-tail}
use Rattle.std.proofs.lemmas.Option.{slice_get_within}
use Rattle.vx_rows.specs.Reads.{IsAmong}
use Rattle.vx_plan.specs.declared.children.PlanRef.{PlanRef}
use Rattle.vx_plan.specs.Nodes.{Node}
use Rattle.vx_plan.specs.Refs.{number_of}
use Rattle.vx_plan.specs.Tables.{AreIn}
use Rattle.vx_plan.proofs.Each.{each_at}
use Rattle.vx_steps.specs.Asked.{AreAskedPlans}
use Rattle.vx_steps.specs.Kept.{kept_at, kept_data, IsKept}
use Rattle.vx_steps.specs.KeptData.{Kept}
use Rattle.vx_steps.specs.declared.kept.KeptValue.{KeptValue}
use Rattle.vx_steps.proofs.Keeping.{kept_old}
use Rattle.vx_steps.proofs.KeptBehind.{kept_either, kept_last}
use Rattle.vx_splits.specs.declared.selected_rows.SelectedRows.{SelectedRows}
use Rattle.vx_drive.specs.declared.errors.ScanError.{ScanError}
use Rattle.vx_drive.specs.declared.plans.ScanPlans.{ScanPlans}
use Rattle.vx_chunks.specs.KeptValues.{Gives}
use Rattle.vx_chunks.specs.Outcomes.{data_of, ChunkAsks}
use Rattle.vx_chunks.proofs.OwnValues.{asked_place}
use Rattle.vx_workers.specs.Certified.{nodes_in, AreGiven, AreRight, Certifies, IsTested, IsWrong, Tests}
use Rattle.vx_workers.proofs.Certifying.{certifies_then, certifies_weaker}
use Rattle.vx_base.specs.Columns.{ColumnData}
use Rattle.vx_base.specs.Sources.{SourceState}
use Rattle.vx_base.proofs.Got.{got_at, got_mapped}

-- ---- elements

pub among_got : {X : Type 0} (xs : List X) (i : ℕ) (x : X) → slice_get xs i ≡ Some x → IsAmong x xs
among_got [] i x at = absurd cc
among_got (one ∷ xs) zero x at = let same : one ≡ x = cc in inl same
among_got (one ∷ xs) (suc i) x at = inr (among_got xs i x at)

pub node_among : (values : List Kept) (i : ℕ) (one : Kept) → slice_get values i ≡ Some one → IsAmong one.node (nodes_in values)
node_among [] i one at = absurd cc
node_among (first ∷ values) zero one at = let same : first ≡ one = cc in inl (ap (λ (k : Kept). k.node) same)
node_among (first ∷ values) (suc i) one at = inr (node_among values i one at)

-- the kept value at the place, as data
pub data_got : (values : List KeptValue) (place : ℕ) (one : KeptValue) → place < length values → one ≡ slice_index_or values place one → slice_get (data_of values) place ≡ Some (kept_data one)
data_got values place one within is = got_mapped kept_data values place one (got_at values place one within is)

-- ---- one plan more

-- what one plan's values take is taken for those that are wanted
pub certifies_next : (plans : ScanPlans) (Wants : ℕ → Type 0) (n : ℕ) (old mid new : List Kept) (failure : Option ScanError) (before now after : SourceState) → Wants n → Certifies plans Wants old mid None before now → Certifies plans (λ m. m ≡ n) mid new failure now after → Certifies plans Wants old new failure before after
certifies_next plans Wants n old mid new failure before now after wants so_far step =
    certifies_then plans Wants old mid new failure before now after so_far (certifies_weaker plans (λ m. m ≡ n) Wants (λ m same. subst Wants (sym same) wants) mid new failure now after step)

-- ---- the borrowed values

-- those before the place are right
abbrev pub AreRightBelow : List Kept → List Kept → ℕ → Type 0
AreRightBelow borrowed right count = (place : ℕ) (one : Kept) → slice_get borrowed place ≡ Some one → place < count → kept_at right one.node ≡ Some one.column

pub record Testing (plans : ScanPlans) (borrowed old now : List Kept) (count : ℕ) (before source : SourceState) : Type 0 where
  pub certifies : Certifies plans (λ n. IsAmong n (nodes_in borrowed)) old now None before source
  pub right : AreRightBelow borrowed now count

pub testing_none : (plans : ScanPlans) (borrowed right : List Kept) (source : SourceState) → Certifies plans (λ n. IsAmong n (nodes_in borrowed)) right right None source source → Testing plans borrowed right right 0 source source
testing_none plans borrowed right source step = record { certifies = step; right = λ place one at less. absurd (omega (arith, less)) }

right_next : (borrowed mid new : List Kept) (count : ℕ) (one : Kept) → slice_get borrowed count ≡ Some one → kept_at new one.node ≡ Some one.column → ((n : ℕ) (column : ColumnData) → kept_at mid n ≡ Some column → kept_at new n ≡ Some column) → AreRightBelow borrowed mid count → AreRightBelow borrowed new (count + 1)
right_next borrowed mid new count one at is grows right place other here less = by_place (cases_eq place count)
  where
    by_place : (place ≡ count) ⊎ (place ≢ count) → kept_at new other.node ≡ Some other.column
    by_place (inl same) =
        let both : Some other ≡ Some one = sym here ∙ (ap (slice_get borrowed) same ∙ at) in
        let e : other ≡ one = cc in
        subst (λ (k : Kept). kept_at new k.node ≡ Some k.column) (sym e) is
    by_place (inr differs) = grows other.node other.column (right place other here (omega (arith, less, differs)))

-- one more of them is right
pub testing_next : (plans : ScanPlans) (borrowed old mid new : List Kept) (count : ℕ) (one : Kept) (before now after : SourceState) → slice_get borrowed count ≡ Some one → Testing plans borrowed old mid count before now → Certifies plans (λ n. n ≡ one.node) mid new None now after → kept_at new one.node ≡ Some one.column →
    Testing plans borrowed old new (count + 1) before after
testing_next plans borrowed old mid new count one before now after at so_far step is = record {
  certifies = certifies_next plans (λ n. IsAmong n (nodes_in borrowed)) one.node old mid new None before now after (node_among borrowed count one at) so_far.certifies step;
  right = right_next borrowed mid new count one at is step.grows so_far.right;
}

-- all of them are
pub tested_all : (borrowed right : List Kept) (count : ℕ) → length borrowed ≡ count → AreRightBelow borrowed right count → AreRight borrowed right
tested_all borrowed right count all below place one at = below place one at (let less = slice_get_within borrowed place one at in omega (arith, less, all))

-- or this one is not
pub tested_wrong : (borrowed right : List Kept) (place : ℕ) (one : Kept) → slice_get borrowed place ≡ Some one → IsKept right one.node → (kept_at right one.node ≡ Some one.column → ⊥) → IsTested borrowed right (Some place)
tested_wrong borrowed right place one at (made, is) not = found (slice_get borrowed place) at
  where
    found : (got : Option Kept) → got ≡ Some one → IsSomeAnd got (IsWrong right)
    found None at = absurd cc
    found (Some other) at =
        let same : other ≡ one = cc in
        subst (IsWrong right) (sym same) (made, is, λ equal. not (is ∙ ap Some (sym equal)))

pub tests_same : (plans : ScanPlans) (borrowed same : List KeptValue) (old new : List Kept) (result : Result (Option ℕ) ScanError) (before after : SourceState) → borrowed ≡ same → Tests plans (data_of borrowed) old new result before after → Tests plans (data_of same) old new result before after
tests_same plans borrowed same old new result before after is tests = subst (λ (values : List KeptValue). Tests plans (data_of values) old new result before after) is tests

-- ---- all that a chunk asks for

-- the given values are right, and there are some for the first plans that are asked for
pub record Giving (plans : ScanPlans) (chosen : SelectedRows) (asked : List PlanRef) (old now given : List Kept) (count : ℕ) (before source : SourceState) : Type 0 where
  pub certifies : Certifies plans (ChunkAsks plans [] chosen) old now None before source
  pub from : (n : ℕ) (column : ColumnData) → kept_at given n ≡ Some column → kept_at now n ≡ Some column
  pub there : (place : ℕ) (node : PlanRef) → slice_get asked place ≡ Some node → place < count → IsKept given (number_of node)

pub giving_none : (plans : ScanPlans) (chosen : SelectedRows) (asked : List PlanRef) (right given : List Kept) (source : SourceState) → given ≡ [] → Certifies plans (ChunkAsks plans [] chosen) right right None source source → Giving plans chosen asked right right given 0 source source
giving_none plans chosen asked right given source none step = record {
  certifies = step;
  from = λ n column at. (let same : kept_at given n ≡ None = ap (λ (ks : List Kept). kept_at ks n) none in let both : Some column ≡ None = sym at ∙ same in absurd cc);
  there = λ place node at less. absurd (omega (arith, less));
}

-- the right value stands behind the others
given_is : (n : ℕ) (right old new : List Kept) (found : Option ColumnData) → kept_at right n ≡ found → IsKept right n → MatchOption found (new ≡ old) (λ column. new ≡ old ++ record { node = n; column = column } ∷ []) → (column : ColumnData) × (kept_at right n ≡ Some column) × (new ≡ old ++ record { node = n; column = column } ∷ [])
given_is n right old new None is (column, at) gives = let both : Some column ≡ None = sym at ∙ is in absurd cc
given_is n right old new (Some column) is kept gives = (column, is, gives)

pub giving_next : (plans : ScanPlans) (chosen : SelectedRows) (asked : List PlanRef) (old mid new given more : List Kept) (count : ℕ) (node : PlanRef) (before now after : SourceState) → slice_get asked count ≡ Some node → ChunkAsks plans [] chosen (number_of node) → Giving plans chosen asked old mid given count before now
    → Certifies plans (λ n. n ≡ number_of node) mid new None now after → IsKept new (number_of node) → Gives (number_of node) new given more → Giving plans chosen asked old new more (count + 1) before after
giving_next plans chosen asked old mid new given more count node before now after at asks so_far step kept gives =
    let one : (column : ColumnData) × (kept_at new (number_of node) ≡ Some column) × (more ≡ given ++ record { node = number_of node; column = column } ∷ []) = given_is (number_of node) new given more (kept_at new (number_of node)) refl kept gives in
    let last : Kept = record { node = number_of node; column = one.0 } in
    record {
      certifies = certifies_next plans (ChunkAsks plans [] chosen) (number_of node) old mid new None before now after asks so_far.certifies step;
      from = λ n column here.
          ⊎_elim (λ (before_it : kept_at given n ≡ Some column). step.grows n column (so_far.from n column before_it))
          (λ (is : (number_of node ≡ n) × (one.0 ≡ column)). subst (λ (m : ℕ). kept_at new m ≡ Some column) is.0 (one.1 ∙ ap Some is.1))
          (kept_either given last n column (sym (ap (λ (ks : List Kept). kept_at ks n) one.2) ∙ here));
      there = λ place other here less. subst (λ (ks : List Kept). IsKept ks (number_of other)) (sym one.2) (by_place place other here less (cases_eq place count) last refl);
    }
  where
    by_place : (place : ℕ) (other : PlanRef) → slice_get asked place ≡ Some other → place < count + 1 → (place ≡ count) ⊎ (place ≢ count) → (last : Kept) → last.node ≡ number_of node → IsKept (given ++ last ∷ []) (number_of other)
    by_place place other here less (inl same) last is =
        let both : Some other ≡ Some node = sym here ∙ (ap (slice_get asked) same ∙ at) in
        let e : other ≡ node = cc in
        subst (IsKept (given ++ last ∷ [])) (is ∙ ap number_of (sym e)) (kept_last given last)
    by_place place other here less (inr differs) last is =
        let before_it : IsKept given (number_of other) = so_far.there place other here (omega (arith, less, differs)) in
        (before_it.0, kept_old given (last ∷ []) (number_of other) before_it.0 before_it.1)

-- the plan at the place of the list is one that the chunk asks for, and one of the table
pub asked_got : (plans : ScanPlans) (chosen : SelectedRows) (asked same : List PlanRef) (place : ℕ) (node : PlanRef) → slice_get asked place ≡ Some node → asked ≡ same → AreAskedPlans plans.table (number_of plans.projection) chosen.scope.rows.start chosen.mask (map number_of same) → ChunkAsks plans [] chosen (number_of node)
asked_got plans chosen asked same place node at is are = (are (number_of node)).0 (among_got (map number_of same) place (number_of node) (got_mapped number_of same place node (sym (ap (λ (nodes : List PlanRef). slice_get nodes place) is) ∙ at)))

pub known_got : (nodes : List Node) (asked same : List PlanRef) (place : ℕ) (node : PlanRef) → slice_get asked place ≡ Some node → asked ≡ same → AreIn nodes (map number_of same) → number_of node < length nodes
known_got nodes asked same place node at is known = each_at (λ n. n < length nodes) (map number_of same) place (number_of node) (got_mapped number_of same place node (sym (ap (λ (ns : List PlanRef). slice_get ns place) is) ∙ at)) known

below_all : (limit : ℕ) (numbers : List ℕ) (n : ℕ) → All (λ m. m < limit) numbers → IsAmong n numbers → n < limit
below_all limit [] n all among = absurd among
below_all limit (m ∷ numbers) n all (inl here) = subst (λ (k : ℕ). k < limit) here (All-head (λ k. k < limit) m numbers all)
below_all limit (m ∷ numbers) n all (inr later) = below_all limit numbers n (All-tail (λ k. k < limit) m numbers all) later

-- all that the chunk asks for are given
pub given_all : (plans : ScanPlans) (chosen : SelectedRows) (asked same : List PlanRef) (old now given : List Kept) (count : ℕ) (before source : SourceState) → AreAskedPlans plans.table (number_of plans.projection) chosen.scope.rows.start chosen.mask (map number_of same) → AreIn plans.table (map number_of same) → asked ≡ same → length asked ≡ count →
    Giving plans chosen asked old now given count before source → AreGiven plans chosen now given
given_all plans chosen asked same old now given count before source are known is all so_far = record {
  from = so_far.from;
  all = λ n asks.
      (let there : IsAmong n (map number_of same) = (are n).1 asks in
      let among : IsAmong n (map number_of asked) = subst (λ (nodes : List PlanRef). IsAmong n (map number_of nodes)) (sym is) there in
      let one : (place : ℕ) × ((node : PlanRef) × (slice_get asked place ≡ Some node) × (number_of node ≡ n)) = asked_place asked n among in
      let less = slice_get_within asked one.0 one.1.0 one.1.1 in
      (below_all (length plans.table) (map number_of same) n known there, subst (IsKept given) one.1.2 (so_far.there one.0 one.1.0 one.1.1 (omega (arith, less, all)))));
}

-- ---- what is found for a plan

pub kept_some : (right : List Kept) (n : ℕ) (found : Option (Bor ColumnData)) → option_copied found ≡ kept_at right n → is_some found ≡ true → IsKept right n
kept_some right n None is some = absurd cc
kept_some right n (Some column) is some = (column.now, sym is)

pub kept_none : (right : List Kept) (n : ℕ) (found : Option (Bor ColumnData)) → option_copied found ≡ kept_at right n → is_some found ≡ false → kept_at right n ≡ None
kept_none right n None is none = sym is
kept_none right n (Some column) is none = absurd cc
