-- The plan that a table holds for a projection is the projection's.
use Rattle.std.proofs.Common.{◌≡◌, ℕ, ◌+◌, pos, inl, inr, Bool, true, false, cond, List, [], Option, Some, None, length, refl, sym, ap, ◌∙◌, subst}
use Rattle.std.specs.Prelude.{option_and_then, option_map, IsSome, IsSomeAnd}
use Rattle.vx_base.specs.declared.dtypes.Nullability.TheVariants.{NonNullable, Nullable}
use Rattle.vx_base.specs.Data.{DataType, bool_type, int_type, utf8_type, struct_type, list_type, Members, no_members, Datum, null, number}
use Rattle.vx_base.specs.Names.{HasDistinctNames}
use Rattle.vx_expr.specs.Bound.{Bound}
use Rattle.vx_expr.specs.Meaning.{meaning}
use Rattle.vx_expr.specs.Mentions.{is_root, uses_root, uses_row_number, root_fields}
use Rattle.vx_expr.specs.Rewritten.{row_number_as_root, over_row_number, with_row_number}
use Rattle.vx_expr.specs.Terms.{Term}
use Rattle.vx_expr.specs.Types.{on_both, type_of, row_number_type}
use Rattle.vx_expr.specs.Rows.{no_bound}
use Rattle.vx_expr.specs.Packs.{struct_row}
use Rattle.vx_layout.specs.Kept.{KeptFields, all, only, kept_among, kept_fields}
use Rattle.vx_layout.specs.Rows.{value}
use Rattle.vx_layout.specs.Sound.{IsSound}
use Rattle.vx_layout.specs.Trees.{Tree, head_of}
use Rattle.vx_lower.specs.KeptRows.{kept_value, MayKeep}
use Rattle.vx_lower.specs.Lowered.{lowered}
use Rattle.vx_lower.specs.Numbered.{numbered}
use Rattle.vx_lower.specs.OldNumbers.{old_number}
use Rattle.vx_lower.specs.Planned.{planned, CanBePlanned}
use Rattle.vx_lower.specs.Projected.{Projection, kept_of, root_value, projected_at}
use Rattle.vx_lower.specs.RowIndex.{head_with, row_index_plan_from, row_index_plan_from_by}
use Rattle.vx_lower.proofs.Lowering.{lowered_values}
use Rattle.vx_lower.proofs.OldNumbers.{numbered_alike, numbered_values, same_reads}
use Rattle.vx_lower.proofs.PlannedTables.{holds_planned, holds_root}
use Rattle.vx_lower.proofs.Planning.{planned_reads, planned_rows, planned_type, planned_values}
use Rattle.vx_plan.specs.Alike.{IsAlike}
use Rattle.vx_plan.specs.Nodes.{Node}
use Rattle.vx_plan.specs.Plans.{Plan, pack_plan, row_idx_plan, no_plans, plan, all_valid, plan_at, plan_head}
use Rattle.vx_plan.specs.PlanRows.{plan_derivation, plan_reads, plan_value}
use Rattle.vx_plan.proofs.AlikePlans.{alike_reads, alike_values}
use Rattle.vx_rows.specs.Derivations.{Derivation, Leaves, derived, one_more}
use Rattle.vx_rows.specs.Given.{with_given}
use Rattle.vx_rows.specs.Renumbered.{renumbered}
use Rattle.vx_rows.specs.Whole.{GiveFitting}
use Rattle.vx_steps.specs.Given.{Handed, row_value, values_for}
use Rattle.vx_steps.specs.Laws.{HandsNone, HasPart, IsFaultyRow, IsFaultyTerm}
use Rattle.vx_steps.specs.Visits.{Visits, HasEvalFault}
use Rattle.vx_steps.proofs.VisitedParts.{term_worked}
use Rattle.vx_steps.proofs.VisitedReads.{none_served}
use Rattle.vx_scan.specs.Causes.{IsFaultAt}
use Rattle.vx_scan.specs.PlanTexts.{held_tree, IsProjectionPlanBy}
use Rattle.vx_scan.specs.FilePlans.{node_of, IsPlanOf, IsProjectedBy}
use Rattle.vx_scan.proofs.PlainPlans.{lowered_plain, plain_sound}
use Rattle.vx_scan.proofs.SoundParts.{kept_sound, part_also, part_back, part_renumbered, HasFault}
use Rattle.vx_scan.proofs.Answered.{fault_by}

-- ---- the lowered tree

sound_by : (leaves : Leaves) → GiveFitting leaves → (offset : ℕ) (t : Tree) (kept : KeptFields) (row : ℕ) → IsSound t → HasDistinctNames (head_of t).dtype → (s : DataType) → (head_of t).dtype ≡ s → MayKeep kept s → HasFault leaves (plan_derivation offset (lowered t kept) row) → ⊥
sound_by leaves fitting offset t all row sound distinct s is may any = plain_sound leaves offset (lowered t all) (lowered_plain t sound) row any
sound_by leaves fitting offset t (only names) row sound distinct (struct_type ms NonNullable) is may any = kept_sound offset leaves fitting names ms (subst HasDistinctNames is distinct).0 t row sound is any
sound_by leaves fitting offset t (only names) row sound distinct (struct_type ms Nullable) is may any = absurd may
sound_by leaves fitting offset t (only names) row sound distinct (bool_type n) is may any = absurd may
sound_by leaves fitting offset t (only names) row sound distinct (int_type kind n) is may any = absurd may
sound_by leaves fitting offset t (only names) row sound distinct (utf8_type n) is may any = absurd may
sound_by leaves fitting offset t (only names) row sound distinct (list_type r n) is may any = absurd may

-- what an expression keeps may be kept
may_by : (b : Bool) (t : DataType) (kept : KeptFields) → MayKeep kept t → MayKeep (cond b kept all) t
may_by true t kept may = may
may_by false t kept may = tt

among_may : (ms : Members) (found : Option (List (List ℕ))) → MayKeep (kept_among ms found) (struct_type ms NonNullable)
among_may ms None = tt
among_may ms (Some names) = tt

pub may_keep : (t : DataType) (e : Term) → MayKeep (kept_fields t e) t
may_keep (struct_type ms NonNullable) e = may_by (uses_root e) (struct_type ms NonNullable) (kept_among ms (root_fields e)) (among_may ms (root_fields e))
may_keep (struct_type ms Nullable) e = tt
may_keep (bool_type n) e = tt
may_keep (int_type kind n) e = tt
may_keep (utf8_type n) e = tt
may_keep (list_type s n) e = tt

held_sound : (leaves : Leaves) → GiveFitting leaves → (p : Projection) → CanBePlanned p → (row : ℕ) → HasFault leaves (plan_derivation p.offset (held_tree p) row) → ⊥
held_sound leaves fitting p can row any =
    let whole : Plan = lowered p.root (kept_of p) in
    let f : ℕ → ℕ = old_number 0 whole in
    let same : renumbered f (plan_derivation p.offset (numbered 0 whole) row) ≡ renumbered (λ n. n) (plan_derivation p.offset whole row) = (numbered_alike p.offset 0 whole).derived row in
    sound_by leaves fitting p.offset p.root (kept_of p) row can.sound can.distinct (head_of p.root).dtype refl (may_keep (head_of p.root).dtype p.expression.term)
    (part_back leaves (λ n. n) (plan_derivation p.offset whole row)
    (subst (HasFault leaves) same (part_renumbered leaves f (plan_derivation p.offset (numbered 0 whole) row) any)))

-- no row of it visits an expression that is a fault
held_visits : (leaves : Leaves) → GiveFitting leaves → (p : Projection) → CanBePlanned p → (handed : Handed) → HandsNone handed → (row at : ℕ) → Visits (HasEvalFault leaves p.offset at) handed (held_tree p) row → ⊥
held_visits leaves fitting p can handed none row at visit =
    let d : Derivation = plan_derivation p.offset (held_tree p) row in
    let worked : HasPart (IsFaultyTerm leaves) (with_given (values_for handed) d) =
    part_also (IsFaultyRow leaves handed p.offset (held_tree p) at) (IsFaultyTerm leaves) (λ x faulty. faulty.0) (with_given (values_for handed) d) (term_worked leaves handed p.offset (held_tree p) row at visit) in
    held_sound leaves fitting p can row (subst (HasPart (IsFaultyTerm leaves)) (none_served (values_for handed) none d) worked)

-- ---- the expression over it

-- the expression is a fault at that row, over the value of its child
abbrev EvalFails : Leaves → Handed → ℕ → Plan → Term → ℕ → Type 0
EvalFails leaves handed offset child e row = IsSomeAnd (row_value leaves handed offset child row) (λ v. meaning (plan_head child).dtype no_bound e v 0 ≡ None)

own_value : (leaves : Leaves) (handed : Handed) → HandsNone handed → (offset : ℕ) (q : Plan) (row : ℕ) → row_value leaves handed offset q row ≡ plan_value leaves offset q row
own_value leaves handed none offset q row = ap (derived leaves) (none_served (values_for handed) none (plan_derivation offset q row))

some_there : (f : Datum → Option Datum) (v : Option Datum) → IsSomeAnd v (λ w. f w ≡ None) → IsSome v
some_there f None fault = absurd fault
some_there f (Some v) fault = refl

some_before : (g : Datum → Datum) (v : Option Datum) → IsSome (option_map g v) → IsSome v
some_before g None some = absurd cc
some_before g (Some v) some = refl

root_fault : (f : Datum → Option Datum) (v : Option Datum) → IsSome v → option_and_then f v ≡ None → IsSomeAnd v (λ w. f w ≡ None)
root_fault f None some none = absurd cc
root_fault f (Some v) some none = none

root_there : (b : Bool) (v : Option Datum) → (b ≡ true → IsSome v) → IsSome (cond b v (Some null))
root_there true v there = there refl
root_there false v there = refl

-- a projection without a value, whose root has one, is a fault
fault_at : (leaves : Leaves) (p : Projection) (row : ℕ) → (uses_root p.expression.term ≡ true → IsSome (value leaves p.root (kept_of p) row)) → projected_at leaves p row ≡ None → IsFaultAt leaves p row
fault_at leaves p row there none =
    root_fault (λ w. meaning (head_of p.root).dtype no_bound p.expression.term w (p.offset + row)) (root_value leaves p row)
    (root_there (uses_root p.expression.term) (value leaves p.root (kept_of p) row) there) none

-- where the tree's plan has a value, the tree has one
tree_there : (leaves : Leaves) → GiveFitting leaves → (p : Projection) → CanBePlanned p → (row : ℕ) → IsSome (plan_value leaves p.offset (held_tree p) row) → IsSome (value leaves p.root (kept_of p) row)
tree_there leaves fitting p can row some =
    let whole : Plan = lowered p.root (kept_of p) in
    let is : plan_value leaves p.offset (numbered 0 whole) row ≡ option_map (kept_value (kept_of p) (head_of p.root).dtype) (value leaves p.root (kept_of p) row) =
    numbered_values leaves p.offset 0 whole row ∙ lowered_values leaves fitting p.offset p.root (kept_of p) row can.sound can.distinct (may_keep (head_of p.root).dtype p.expression.term) in
    some_before (kept_value (kept_of p) (head_of p.root).dtype) (value leaves p.root (kept_of p) row) (subst IsSome is some)

-- what a fault over a child says of the eval over it
pub record Fails (leaves : Leaves) (p : Projection) (q child : Plan) (row at : ℕ) : Type 0 where
  same_row : row ≡ at
  none : plan_value leaves p.offset q row ≡ None
  there : IsSome (plan_value leaves p.offset child row)

eval_fails : (leaves : Leaves) (p : Projection) (handed : Handed) → HandsNone handed → (e : Term) (q child : Plan) (row at : ℕ) → (row ≡ at) × EvalFails leaves handed p.offset child e row
    → plan_value leaves p.offset q row ≡ option_and_then (λ v. meaning (plan_head child).dtype no_bound e v 0) (plan_value leaves p.offset child row) → Fails leaves p q child row at
eval_fails leaves p handed none e q child row at (same, fails) worth =
    let over : IsSomeAnd (plan_value leaves p.offset child row) (λ v. meaning (plan_head child).dtype no_bound e v 0 ≡ None) =
    subst (λ (v : Option Datum). IsSomeAnd v (λ w. meaning (plan_head child).dtype no_bound e w 0 ≡ None)) (own_value leaves handed none p.offset child row) fails in
    record {
      same_row = same;
      none = worth ∙ fault_by (λ v. meaning (plan_head child).dtype no_bound e v 0) (plan_value leaves p.offset child row) over;
      there = some_there (λ v. meaning (plan_head child).dtype no_bound e v 0) (plan_value leaves p.offset child row) over;
    }

-- a row has a value where the struct of its number and it has one
packed_there : (u : Datum) (v : Option Datum) → IsSome (option_map struct_row (on_both one_more (Some u) (on_both one_more v (Some [])))) → IsSome v
packed_there u None some = absurd cc
packed_there u (Some v) some = refl

-- ---- by what the expression uses

faults_by : (uses numbers : Bool) (leaves : Leaves) → GiveFitting leaves → (p : Projection) → CanBePlanned p → (n : ℕ) (a : Bound) (handed : Handed) (row at : ℕ) → HandsNone handed
    → uses_root p.expression.term ≡ uses → plan_value leaves p.offset (row_index_plan_from_by uses numbers n a (held_tree p)) row ≡ projected_at leaves p row
    → Visits (HasEvalFault leaves p.offset at) handed (row_index_plan_from_by uses numbers n a (held_tree p)) row → (row ≡ at) × IsFaultAt leaves p row
faults_by false false leaves fitting p can n a handed row at none is worth (inl here) =
    let q : Plan = row_index_plan_from_by false false n a (held_tree p) in
    let child : Plan = pack_plan (head_with n (struct_type no_members NonNullable) (held_tree p)) no_plans all_valid in
    let fails : Fails leaves p q child row at = eval_fails leaves p handed none a.term q child row at here refl in
    (fails.same_row, fault_at leaves p row (λ used. absurd (let e : true ≡ false = sym used ∙ is in cc)) (sym worth ∙ fails.none))
faults_by false false leaves fitting p can n a handed row at none is worth (inr (inl below)) = absurd below
faults_by false false leaves fitting p can n a handed row at none is worth (inr (inr (inl below))) = absurd below
faults_by false false leaves fitting p can n a handed row at none is worth (inr (inr (inr below))) = absurd below
faults_by false true leaves fitting p can n a handed row at none is worth (inl here) =
    let q : Plan = row_index_plan_from_by false true n a (held_tree p) in
    let child : Plan = row_idx_plan (head_with n row_number_type (held_tree p)) in
    let fails : Fails leaves p q child row at = eval_fails leaves p handed none (row_number_as_root a).term q child row at here refl in
    (fails.same_row, fault_at leaves p row (λ used. absurd (let e : true ≡ false = sym used ∙ is in cc)) (sym worth ∙ fails.none))
faults_by false true leaves fitting p can n a handed row at none is worth (inr below) = absurd below
faults_by true false leaves fitting p can n a handed row at none is worth (inl here) =
    let q : Plan = row_index_plan_from_by true false n a (held_tree p) in
    let fails : Fails leaves p q (held_tree p) row at = eval_fails leaves p handed none a.term q (held_tree p) row at here refl in
    (fails.same_row, fault_at leaves p row (λ used. tree_there leaves fitting p can row fails.there) (sym worth ∙ fails.none))
faults_by true false leaves fitting p can n a handed row at none is worth (inr below) = absurd (held_visits leaves fitting p can handed none row at below)
faults_by true true leaves fitting p can n a handed row at none is worth (inl here) =
    let q : Plan = row_index_plan_from_by true true n a (held_tree p) in
    let child : Plan = pack_plan (head_with (n + 1) (with_row_number (plan_head (held_tree p)).dtype) (held_tree p)) (plan (row_idx_plan (head_with n row_number_type (held_tree p))) (plan (held_tree p) no_plans)) all_valid in
    let fails : Fails leaves p q child row at = eval_fails leaves p handed none (over_row_number a).term q child row at here refl in
    (fails.same_row, fault_at leaves p row (λ used. tree_there leaves fitting p can row (packed_there (number (pos (row + p.offset))) (plan_value leaves p.offset (held_tree p) row) fails.there)) (sym worth ∙ fails.none))
faults_by true true leaves fitting p can n a handed row at none is worth (inr (inl below)) = absurd below
faults_by true true leaves fitting p can n a handed row at none is worth (inr (inr (inl (inl below)))) = absurd below
faults_by true true leaves fitting p can n a handed row at none is worth (inr (inr (inl (inr (inl below))))) = absurd (held_visits leaves fitting p can handed none row at below)
faults_by true true leaves fitting p can n a handed row at none is worth (inr (inr (inl (inr (inr below))))) = absurd below
faults_by true true leaves fitting p can n a handed row at none is worth (inr (inr (inr below))) = absurd below

-- ---- the plan of a projection

alike_is_plan : (p : Projection) (q : Plan) → CanBePlanned p → type_of (head_of p.root).dtype p.expression.term ≡ Some p.expression.dtype → IsAlike (node_of p) (λ n. n) p.offset q (planned p)
    → ((leaves : Leaves) → GiveFitting leaves → (handed : Handed) (row at : ℕ) → HandsNone handed → plan_value leaves p.offset q row ≡ projected_at leaves p row → Visits (HasEvalFault leaves p.offset at) handed q row → (row ≡ at) × IsFaultAt leaves p row)
    → IsPlanOf p q
alike_is_plan p q can bound alike faults =
    let values : (leaves : Leaves) → GiveFitting leaves → (row : ℕ) → plan_value leaves p.offset q row ≡ projected_at leaves p row = λ leaves fitting row.
    alike_values (node_of p) (λ n. n) leaves p.offset q (planned p) row alike ∙ planned_values leaves fitting p row can in
    record {
      dtype = alike.head.dtype ∙ planned_type p can bound;
      rows = alike.head.rows ∙ planned_rows p can;
      values = values;
      reads = λ row. alike_reads (node_of p) (λ n. n) p.offset q (planned p) row alike ∙ (same_reads (plan_reads p.offset (planned p) row) ∙ planned_reads p row can);
      faults = λ leaves fitting handed row at none visit. faults leaves fitting handed row at none (values leaves fitting row) visit;
    }

-- a table that holds the tree, and over it the plan of the expression, holds the projection's plan
pub projected_plan : (p : Projection) (old new : List Node) (child place : ℕ) (b : Bool) → is_root p.expression.term ≡ b → CanBePlanned p → type_of (head_of p.root).dtype p.expression.term ≡ Some p.expression.dtype
    → plan_at old child ≡ held_tree p → IsProjectedBy b old new p.expression child place → IsPlanOf p (plan_at new place)
projected_plan p old new child place true is can bound holds (same, root) =
    let there : plan_at new place ≡ held_tree p = (λ i. plan_at (same i) (root i)) ∙ holds in
    alike_is_plan p (plan_at new place) can bound (holds_root new place 0 p is there)
    (λ leaves fitting handed row at none worth visit. absurd (held_visits leaves fitting p can handed none row at (subst (λ (q : Plan). Visits (HasEvalFault leaves p.offset at) handed q row) there visit)))
projected_plan p old new child place false is can bound holds (t, over) =
    let a : Bound = record p.expression { root = t } in
    let there : plan_at new place ≡ row_index_plan_from (length old) a (held_tree p) = over.plan_is ∙ ap (row_index_plan_from (length old) a) holds in
    alike_is_plan p (plan_at new place) can bound (holds_planned old new a child place 0 p is refl refl holds over)
    (λ leaves fitting handed row at none worth visit.
    faults_by (uses_root p.expression.term) (uses_row_number p.expression.term) leaves fitting p can (length old) a handed row at none refl
    (subst (λ (q : Plan). plan_value leaves p.offset q row ≡ projected_at leaves p row) there worth)
    (subst (λ (q : Plan). Visits (HasEvalFault leaves p.offset at) handed q row) there visit))

-- ---- the same, as the plan that it is

any_root_from : (uses numbers : Bool) (n : ℕ) (a : Bound) (t : DataType) (child : Plan) → row_index_plan_from_by uses numbers n (record a { root = t }) child ≡ row_index_plan_from_by uses numbers n a child
any_root_from false false n a t child = refl
any_root_from false true n a t child = refl
any_root_from true false n a t child = refl
any_root_from true true n a t child = refl

pub projection_plan_is : (p : Projection) (old new : List Node) (child place : ℕ) (b : Bool) → plan_at old child ≡ held_tree p → IsProjectedBy b old new p.expression child place → IsProjectionPlanBy b p (plan_at new place)
projection_plan_is p old new child place true holds (same, root) = (λ i. plan_at (same i) (root i)) ∙ holds
projection_plan_is p old new child place false holds (t, over) = (length old, over.plan_is ∙ (ap (row_index_plan_from (length old) (record p.expression { root = t })) holds ∙ any_root_from (uses_root p.expression.term) (uses_row_number p.expression.term) (length old) p.expression t (held_tree p)))
