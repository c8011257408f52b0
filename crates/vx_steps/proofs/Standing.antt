-- What stands in a plan.
use Rattle.std.proofs.Common.{◌≡◌, ℕ, zero, suc, ◌+◌, ◌-◌, ◌<◌, ◌⊎◌, inl, inr, Bool, true, false, List, [], ◌∷◌, Option, Some, None, length, map, refl, sym, subst, arith}
use Rattle.std.specs.Prelude.{nat_lt, IsSomeAnd}
use Rattle.std.specs.Bool.{MatchBool}
use Rattle.std.specs.List.{slice_get, All}
use Rattle.std.proofs.lemmas.List.Elements.{All-head, All-tail}
use Rattle.std.proofs.lemmas.Option.{slice_get-get_or}
use Rattle.vx_rows.specs.Derivations.{Leaves}
use Rattle.vx_rows.specs.Given.{GivenValues}
use Rattle.vx_rows.specs.Heads.{Head}
use Rattle.vx_plan.specs.declared.nodes.PlanKind.{PlanKind}
use Rattle.vx_plan.specs.declared.nodes.PlanKind.TheVariants as kinds
use Rattle.vx_plan.specs.Kinds.{HasKind, IsShare}
use Rattle.vx_plan.specs.Nodes.{Node, absent}
use Rattle.vx_plan.specs.Plans.{Plan, no_plan, concat_plan, eval_plan, filter_plan, pack_plan, take_plan, share_plan, list_plan, row_idx_plan, scan_plan, zoned_plan, pruning_plan, Plans, no_plans, plan, PlanValidity, all_valid, valid_as, plan_head, head_at, plan_at, plan_gap, plan_in, plan_grown_as, plans_from, front_plans, last_plan, field_plans, last_validity}
use Rattle.vx_plan.specs.Rules.{node_at}
use Rattle.vx_plan.specs.Tables.{IsGoodTable}
use Rattle.vx_plan.proofs.Unfolding.{Known, known}
use Rattle.vx_steps.specs.declared.errors.StepError.TheVariants.{EvalFault}
use Rattle.vx_steps.specs.Below.{StandsIn, StandsAmong, StandsInValidity, IsSharePlan, IsEvalPlan, IsTakeOverEval, HasNoShare, HasNoEvalBelowTake}
use Rattle.vx_steps.specs.Given.{Handed}
use Rattle.vx_steps.specs.Visits.{Test, Visits, VisitsIn, VisitsField, VisitsValidity, HasEvalFault}
use Rattle.vx_steps.specs.Wholes.{HasInsideCause, Inside}

-- ---- the plan itself

pub stands_self : (F : Plan → Type 0) (p : Plan) → F p → StandsIn F p
stands_self F (no_plan head) is = is
stands_self F (concat_plan head children) is = inl is
stands_self F (eval_plan head e child) is = inl is
stands_self F (filter_plan head child) is = inl is
stands_self F (pack_plan head children validity) is = inl is
stands_self F (take_plan head codes values) is = inl is
stands_self F (share_plan head child) is = inl is
stands_self F (list_plan head elements offsets validity) is = inl is
stands_self F (row_idx_plan head) is = is
stands_self F (scan_plan head segment coding) is = is
stands_self F (zoned_plan head zones content table) is = inl is
stands_self F (pruning_plan head pruning table) is = inl is

-- ---- one plan for another

mutual
  pub stands_mapped : (F G : Plan → Type 0) → ((p : Plan) → F p → G p) → (p : Plan) → StandsIn F p → StandsIn G p
  stands_mapped F G to (no_plan head) s = to (no_plan head) s
  stands_mapped F G to (concat_plan head children) (inl s) = inl (to (concat_plan head children) s)
  stands_mapped F G to (concat_plan head children) (inr s) = inr (among_mapped F G to children s)
  stands_mapped F G to (eval_plan head e child) (inl s) = inl (to (eval_plan head e child) s)
  stands_mapped F G to (eval_plan head e child) (inr s) = inr (stands_mapped F G to child s)
  stands_mapped F G to (filter_plan head child) (inl s) = inl (to (filter_plan head child) s)
  stands_mapped F G to (filter_plan head child) (inr s) = inr (stands_mapped F G to child s)
  stands_mapped F G to (pack_plan head children validity) (inl s) = inl (to (pack_plan head children validity) s)
  stands_mapped F G to (pack_plan head children validity) (inr (inl s)) = inr (inl (among_mapped F G to children s))
  stands_mapped F G to (pack_plan head children validity) (inr (inr s)) = inr (inr (validity_mapped F G to validity s))
  stands_mapped F G to (take_plan head codes values) (inl s) = inl (to (take_plan head codes values) s)
  stands_mapped F G to (take_plan head codes values) (inr (inl s)) = inr (inl (stands_mapped F G to codes s))
  stands_mapped F G to (take_plan head codes values) (inr (inr s)) = inr (inr (stands_mapped F G to values s))
  stands_mapped F G to (share_plan head child) (inl s) = inl (to (share_plan head child) s)
  stands_mapped F G to (share_plan head child) (inr s) = inr (stands_mapped F G to child s)
  stands_mapped F G to (list_plan head elements offsets validity) (inl s) = inl (to (list_plan head elements offsets validity) s)
  stands_mapped F G to (list_plan head elements offsets validity) (inr (inl s)) = inr (inl (stands_mapped F G to elements s))
  stands_mapped F G to (list_plan head elements offsets validity) (inr (inr (inl s))) = inr (inr (inl (stands_mapped F G to offsets s)))
  stands_mapped F G to (list_plan head elements offsets validity) (inr (inr (inr s))) = inr (inr (inr (validity_mapped F G to validity s)))
  stands_mapped F G to (row_idx_plan head) s = to (row_idx_plan head) s
  stands_mapped F G to (scan_plan head segment coding) s = to (scan_plan head segment coding) s
  stands_mapped F G to (zoned_plan head zones content table) (inl s) = inl (to (zoned_plan head zones content table) s)
  stands_mapped F G to (zoned_plan head zones content table) (inr (inl s)) = inr (inl (stands_mapped F G to content s))
  stands_mapped F G to (zoned_plan head zones content table) (inr (inr s)) = inr (inr (stands_mapped F G to table s))
  stands_mapped F G to (pruning_plan head pruning table) (inl s) = inl (to (pruning_plan head pruning table) s)
  stands_mapped F G to (pruning_plan head pruning table) (inr s) = inr (stands_mapped F G to table s)

  among_mapped : (F G : Plan → Type 0) → ((p : Plan) → F p → G p) → (ps : Plans) → StandsAmong F ps → StandsAmong G ps
  among_mapped F G to no_plans s = s
  among_mapped F G to (plan first rest) (inl s) = inl (stands_mapped F G to first s)
  among_mapped F G to (plan first rest) (inr s) = inr (among_mapped F G to rest s)

  validity_mapped : (F G : Plan → Type 0) → ((p : Plan) → F p → G p) → (validity : PlanValidity) → StandsInValidity F validity → StandsInValidity G validity
  validity_mapped F G to all_valid s = s
  validity_mapped F G to (valid_as validity) s = stands_mapped F G to validity s

-- ---- the plans of a table

-- some plan of the table is so, or one that isn't there
abbrev pub IsOfTable : (Plan → Type 0) → List Node → Type 0
IsOfTable F nodes = F (plan_gap 0) ⊎ ((n : ℕ) × (n < length nodes) × F (plan_at nodes n))

abbrev CanFind : (Plan → Type 0) → List Node → ℕ → Type 0
CanFind F nodes n = StandsIn F (plan_at nodes n) → IsOfTable F nodes

abbrev CanFindAll : (Plan → Type 0) → List Node → List ℕ → Type 0
CanFindAll F nodes [] = Unit {0}
CanFindAll F nodes (n ∷ ns) = CanFind F nodes n × CanFindAll F nodes ns

found_in : (F : Plan → Type 0) (nodes : List Node) (ns : List ℕ) (place : ℕ) → CanFindAll F nodes ns → StandsIn F (plan_in (map (plan_at nodes) ns) place) → IsOfTable F nodes
found_in F nodes [] place each s = inl s
found_in F nodes (n ∷ ns) zero each s = each.0 s
found_in F nodes (n ∷ ns) (suc place) each s = found_in F nodes ns place each.1 s

found_among : (F : Plan → Type 0) (nodes : List Node) (ns : List ℕ) → CanFindAll F nodes ns → StandsAmong F (plans_from (map (plan_at nodes) ns)) → IsOfTable F nodes
found_among F nodes [] each s = absurd s
found_among F nodes (n ∷ ns) each (inl s) = each.0 s
found_among F nodes (n ∷ ns) each (inr s) = found_among F nodes ns each.1 s

found_front : (F : Plan → Type 0) (nodes : List Node) (ns : List ℕ) → CanFindAll F nodes ns → StandsAmong F (plans_from (front_plans (map (plan_at nodes) ns))) → IsOfTable F nodes
found_front F nodes [] each s = absurd s
found_front F nodes (n ∷ []) each s = absurd s
found_front F nodes (n ∷ m ∷ ns) each (inl s) = each.0 s
found_front F nodes (n ∷ m ∷ ns) each (inr s) = found_front F nodes (m ∷ ns) each.1 s

found_last : (F : Plan → Type 0) (nodes : List Node) (ns : List ℕ) → CanFindAll F nodes ns → StandsIn F (last_plan (map (plan_at nodes) ns)) → IsOfTable F nodes
found_last F nodes [] each s = inl s
found_last F nodes (n ∷ []) each s = each.0 s
found_last F nodes (n ∷ m ∷ ns) each s = found_last F nodes (m ∷ ns) each.1 s

found_field : (has_validity : Bool) (F : Plan → Type 0) (nodes : List Node) (ns : List ℕ) → CanFindAll F nodes ns → StandsAmong F (plans_from (field_plans has_validity (map (plan_at nodes) ns))) → IsOfTable F nodes
found_field false F nodes ns each s = found_among F nodes ns each s
found_field true F nodes ns each s = found_front F nodes ns each s

found_validity : (has_validity : Bool) (F : Plan → Type 0) (nodes : List Node) (ns : List ℕ) → CanFindAll F nodes ns → StandsInValidity F (last_validity has_validity (map (plan_at nodes) ns)) → IsOfTable F nodes
found_validity false F nodes ns each s = absurd s
found_validity true F nodes ns each s = found_last F nodes ns each s

found_kind : (kind : PlanKind) (F : Plan → Type 0) (nodes : List Node) (head : Head) (ns : List ℕ) → (F (plan_grown_as head kind (map (plan_at nodes) ns)) → IsOfTable F nodes) → CanFindAll F nodes ns → StandsIn F (plan_grown_as head kind (map (plan_at nodes) ns)) → IsOfTable F nodes
found_kind kinds.Concat F nodes head ns own each (inl s) = own s
found_kind kinds.Concat F nodes head ns own each (inr s) = found_among F nodes ns each s
found_kind (kinds.Eval a) F nodes head ns own each (inl s) = own s
found_kind (kinds.Eval a) F nodes head ns own each (inr s) = found_in F nodes ns 0 each s
found_kind kinds.Filter F nodes head ns own each (inl s) = own s
found_kind kinds.Filter F nodes head ns own each (inr s) = found_in F nodes ns 0 each s
found_kind (kinds.Pack has_validity) F nodes head ns own each (inl s) = own s
found_kind (kinds.Pack has_validity) F nodes head ns own each (inr (inl s)) = found_field has_validity F nodes ns each s
found_kind (kinds.Pack has_validity) F nodes head ns own each (inr (inr s)) = found_validity has_validity F nodes ns each s
found_kind kinds.Take F nodes head ns own each (inl s) = own s
found_kind kinds.Take F nodes head ns own each (inr (inl s)) = found_in F nodes ns 0 each s
found_kind kinds.Take F nodes head ns own each (inr (inr s)) = found_in F nodes ns 1 each s
found_kind kinds.Share F nodes head ns own each (inl s) = own s
found_kind kinds.Share F nodes head ns own each (inr s) = found_in F nodes ns 0 each s
found_kind (kinds.ListPack has_validity) F nodes head ns own each (inl s) = own s
found_kind (kinds.ListPack has_validity) F nodes head ns own each (inr (inl s)) = found_in F nodes ns 0 each s
found_kind (kinds.ListPack has_validity) F nodes head ns own each (inr (inr (inl s))) = found_in F nodes ns 1 each s
found_kind (kinds.ListPack has_validity) F nodes head ns own each (inr (inr (inr s))) = found_validity has_validity F nodes ns each s
found_kind kinds.RowIdx F nodes head ns own each s = own s
found_kind (kinds.SegmentScan segment coding) F nodes head ns own each s = own s
found_kind (kinds.Zoned zone_len stats) F nodes head ns own each (inl s) = own s
found_kind (kinds.Zoned zone_len stats) F nodes head ns own each (inr (inl s)) = found_in F nodes ns 0 each s
found_kind (kinds.Zoned zone_len stats) F nodes head ns own each (inr (inr s)) = found_in F nodes ns 1 each s
found_kind (kinds.LegacyStats zone_len stats) F nodes head ns own each (inl s) = own s
found_kind (kinds.LegacyStats zone_len stats) F nodes head ns own each (inr (inl s)) = found_in F nodes ns 0 each s
found_kind (kinds.LegacyStats zone_len stats) F nodes head ns own each (inr (inr s)) = found_in F nodes ns 1 each s
found_kind (kinds.Pruning zone_len stats proof) F nodes head ns own each (inl s) = own s
found_kind (kinds.Pruning zone_len stats proof) F nodes head ns own each (inr s) = found_in F nodes ns 0 each s

all_found : (F : Plan → Type 0) (nodes : List Node) (bound : ℕ) → ((n : ℕ) → n < bound → CanFind F nodes n) → (ns : List ℕ) → All (λ n. n < bound) ns → CanFindAll F nodes ns
all_found F nodes bound each [] below = tt
all_found F nodes bound each (n ∷ ns) below = (each n (All-head (λ n. n < bound) n ns below), all_found F nodes bound each ns (All-tail (λ n. n < bound) n ns below))

found_below : (F : Plan → Type 0) (nodes : List Node) → IsGoodTable nodes → (bound n : ℕ) → n < bound → n < length nodes → CanFind F nodes n
found_below F nodes good zero n lt there s = absurd (omega arith)
found_below F nodes good (suc bound) n lt there s =
    let node : Node = node_at nodes n in
    let k : Known nodes n node node.kind = known nodes good n node node.kind (slice_get-get_or nodes n absent there) refl in
    let each : CanFindAll F nodes node.children = all_found F nodes n (λ m less. found_below F nodes good bound m (omega arith) (omega arith)) node.children k.good.below in
    found_kind node.kind F nodes (head_at n node) node.children (λ is. inr (n, there, subst F (sym k.law) is)) each (subst (StandsIn F) k.law s)

-- what stands in a plan of a table is a plan of the table
pub stands_of_table : (F : Plan → Type 0) (nodes : List Node) → IsGoodTable nodes → (n : ℕ) → n < length nodes → StandsIn F (plan_at nodes n) → IsOfTable F nodes
stands_of_table F nodes good n there s = found_below F nodes good (suc n) n (omega arith) there s

-- ---- what is visited stands in the plan

by_either : (b : Bool) (A B C D : Type 0) → (A → C) → (B → D) → MatchBool b A B → C ⊎ D
by_either true A B C D f g v = inl (f v)
by_either false A B C D f g v = inr (g v)

-- whoever is tested so is so
abbrev pub Tells : Test → (Plan → Type 0) → Type 0
Tells P F = (handed : Handed) (p : Plan) (row : ℕ) → P handed p row → F p

mutual
  pub visit_stands : (P : Test) (F : Plan → Type 0) → Tells P F → (handed : Handed) (p : Plan) (row : ℕ) → Visits P handed p row → StandsIn F p
  visit_stands P F tells handed (no_plan head) row v = tells handed (no_plan head) row v
  visit_stands P F tells handed (concat_plan head children) row (inl v) = inl (tells handed (concat_plan head children) row v)
  visit_stands P F tells handed (concat_plan head children) row (inr v) = inr (visit_stands_in P F tells handed children row v)
  visit_stands P F tells handed (eval_plan head e child) row (inl v) = inl (tells handed (eval_plan head e child) row v)
  visit_stands P F tells handed (eval_plan head e child) row (inr v) = inr (visit_stands P F tells handed child row v)
  visit_stands P F tells handed (filter_plan head child) row (inl v) = inl (tells handed (filter_plan head child) row v)
  visit_stands P F tells handed (filter_plan head child) row (inr v) = inr (visit_stands P F tells handed child row v)
  visit_stands P F tells handed (pack_plan head children validity) row (inl v) = inl (tells handed (pack_plan head children validity) row v)
  visit_stands P F tells handed (pack_plan head children validity) row (inr (inl v)) = inr (inl (visit_stands_field P F tells handed children row v))
  visit_stands P F tells handed (pack_plan head children validity) row (inr (inr v)) = inr (inr (visit_stands_validity P F tells handed validity row v))
  visit_stands P F tells handed (take_plan head codes values) row (inl v) = inl (tells handed (take_plan head codes values) row v)
  visit_stands P F tells handed (take_plan head codes values) row (inr (inl v)) = inr (inl (visit_stands P F tells handed codes row v))
  visit_stands P F tells handed (take_plan head codes values) row (inr (inr (none, (other, less, v)))) = inr (inr (visit_stands P F tells None values other v))
  visit_stands P F tells handed (share_plan head child) row (inl v) = inl (tells handed (share_plan head child) row v)
  visit_stands P F tells handed (share_plan head child) row (inr (none, (other, less, v))) = inr (visit_stands P F tells None child other v)
  visit_stands P F tells handed (list_plan head elements offsets validity) row v = inl (tells handed (list_plan head elements offsets validity) row v)
  visit_stands P F tells handed (row_idx_plan head) row v = tells handed (row_idx_plan head) row v
  visit_stands P F tells handed (scan_plan head segment coding) row v = tells handed (scan_plan head segment coding) row v
  visit_stands P F tells handed (zoned_plan head zones content table) row (inl v) = inl (tells handed (zoned_plan head zones content table) row v)
  visit_stands P F tells handed (zoned_plan head zones content table) row (inr v) = inr (inl (visit_stands P F tells handed content row v))
  visit_stands P F tells handed (pruning_plan head pruning table) row (inl v) = inl (tells handed (pruning_plan head pruning table) row v)
  visit_stands P F tells handed (pruning_plan head pruning table) row (inr (other, less, v)) = inr (visit_stands P F tells handed table other v)

  visit_stands_in : (P : Test) (F : Plan → Type 0) → Tells P F → (handed : Handed) (ps : Plans) (row : ℕ) → VisitsIn P handed ps row → StandsAmong F ps
  visit_stands_in P F tells handed no_plans row v = absurd v
  visit_stands_in P F tells handed (plan first rest) row v =
      by_either (nat_lt row (plan_head first).rows) (Visits P handed first row) (VisitsIn P handed rest (row - (plan_head first).rows)) (StandsIn F first) (StandsAmong F rest)
      (visit_stands P F tells handed first row) (visit_stands_in P F tells handed rest (row - (plan_head first).rows)) v

  visit_stands_field : (P : Test) (F : Plan → Type 0) → Tells P F → (handed : Handed) (ps : Plans) (row : ℕ) → VisitsField P handed ps row → StandsAmong F ps
  visit_stands_field P F tells handed no_plans row v = absurd v
  visit_stands_field P F tells handed (plan first rest) row (inl v) = inl (visit_stands P F tells handed first row v)
  visit_stands_field P F tells handed (plan first rest) row (inr v) = inr (visit_stands_field P F tells handed rest row v)

  visit_stands_validity : (P : Test) (F : Plan → Type 0) → Tells P F → (handed : Handed) (validity : PlanValidity) (row : ℕ) → VisitsValidity P handed validity row → StandsInValidity F validity
  visit_stands_validity P F tells handed all_valid row v = absurd v
  visit_stands_validity P F tells handed (valid_as validity) row v = visit_stands P F tells handed validity row v

-- ---- shares

-- whoever is a share is of a node that is
pub share_kind : (kind : PlanKind) (head : Head) (ps : List Plan) → IsSharePlan (plan_grown_as head kind ps) → IsShare kind
share_kind kinds.Concat head ps s = absurd s
share_kind (kinds.Eval a) head ps s = absurd s
share_kind kinds.Filter head ps s = absurd s
share_kind (kinds.Pack has_validity) head ps s = absurd s
share_kind kinds.Take head ps s = absurd s
share_kind kinds.Share head ps s = tt
share_kind (kinds.ListPack has_validity) head ps s = absurd s
share_kind kinds.RowIdx head ps s = absurd s
share_kind (kinds.SegmentScan segment coding) head ps s = absurd s
share_kind (kinds.Zoned zone_len stats) head ps s = absurd s
share_kind (kinds.LegacyStats zone_len stats) head ps s = absurd s
share_kind (kinds.Pruning zone_len stats proof) head ps s = absurd s

is_share : (nodes : List Node) → IsGoodTable nodes → (n : ℕ) → n < length nodes → IsSharePlan (plan_at nodes n) → HasKind IsShare nodes n
is_share nodes good n there s =
    let node : Node = node_at nodes n in
    let at : slice_get nodes n ≡ Some node = slice_get-get_or nodes n absent there in
    let k : Known nodes n node node.kind = known nodes good n node node.kind at refl in
    let G : Option Node → Type 0 = λ o. IsSomeAnd o (λ node. IsShare node.kind) in
    subst G (sym at) (share_kind node.kind (head_at n node) (map (plan_at nodes) node.children) (subst IsSharePlan k.law s))

pub none_shared : (nodes : List Node) → IsGoodTable nodes → ((n : ℕ) → HasKind IsShare nodes n → ⊥) → (n : ℕ) → n < length nodes → HasNoShare (plan_at nodes n)
none_shared nodes good none n there s = refuted (stands_of_table IsSharePlan nodes good n there s)
  where
    refuted : IsOfTable IsSharePlan nodes → ⊥
    refuted (inl gap) = gap
    refuted (inr (m, less, is)) = none m (is_share nodes good m less is)

-- ---- faults of expressions

abbrev IsFault : Leaves → ℕ → ℕ → Test
IsFault leaves offset at = Inside (HasEvalFault leaves offset at)

of_eval : (leaves : Leaves) (offset at : ℕ) → Tells (IsFault leaves offset at) IsEvalPlan
of_eval leaves offset at (Some given) p row v = absurd v
of_eval leaves offset at None (no_plan head) row v = absurd v
of_eval leaves offset at None (concat_plan head children) row v = absurd v
of_eval leaves offset at None (eval_plan head e child) row v = tt
of_eval leaves offset at None (filter_plan head child) row v = absurd v
of_eval leaves offset at None (pack_plan head children validity) row v = absurd v
of_eval leaves offset at None (take_plan head codes values) row v = absurd v
of_eval leaves offset at None (share_plan head child) row v = absurd v
of_eval leaves offset at None (list_plan head elements offsets validity) row v = absurd v
of_eval leaves offset at None (row_idx_plan head) row v = absurd v
of_eval leaves offset at None (scan_plan head segment coding) row v = absurd v
of_eval leaves offset at None (zoned_plan head zones content table) row v = absurd v
of_eval leaves offset at None (pruning_plan head pruning table) row v = absurd v

pub match_none : (b : Bool) (A B : Type 0) → (A → ⊥) → (B → ⊥) → MatchBool b A B → ⊥
match_none true A B f g v = f v
match_none false A B f g v = g v

mutual
  none_inside : (leaves : Leaves) (offset at : ℕ) (given : GivenValues) (p : Plan) (row : ℕ) → HasNoShare p → HasNoEvalBelowTake p → Visits (IsFault leaves offset at) (Some given) p row → ⊥
  none_inside leaves offset at given (no_plan head) row shares evals v = v
  none_inside leaves offset at given (concat_plan head children) row shares evals (inl v) = v
  none_inside leaves offset at given (concat_plan head children) row shares evals (inr v) = none_inside_in leaves offset at given children row (λ s. shares (inr s)) (λ s. evals (inr s)) v
  none_inside leaves offset at given (eval_plan head e child) row shares evals (inl v) = v
  none_inside leaves offset at given (eval_plan head e child) row shares evals (inr v) = none_inside leaves offset at given child row (λ s. shares (inr s)) (λ s. evals (inr s)) v
  none_inside leaves offset at given (filter_plan head child) row shares evals (inl v) = v
  none_inside leaves offset at given (filter_plan head child) row shares evals (inr v) = none_inside leaves offset at given child row (λ s. shares (inr s)) (λ s. evals (inr s)) v
  none_inside leaves offset at given (pack_plan head children validity) row shares evals (inl v) = v
  none_inside leaves offset at given (pack_plan head children validity) row shares evals (inr (inl v)) = none_inside_fields leaves offset at given children row (λ s. shares (inr (inl s))) (λ s. evals (inr (inl s))) v
  none_inside leaves offset at given (pack_plan head children validity) row shares evals (inr (inr v)) = none_inside_validity leaves offset at given validity row (λ s. shares (inr (inr s))) (λ s. evals (inr (inr s))) v
  none_inside leaves offset at given (take_plan head codes values) row shares evals (inl v) = v
  none_inside leaves offset at given (take_plan head codes values) row shares evals (inr (inl v)) = none_inside leaves offset at given codes row (λ s. shares (inr (inl s))) (λ s. evals (inr (inl s))) v
  none_inside leaves offset at given (take_plan head codes values) row shares evals (inr (inr (none, (other, less, v)))) = evals (inl (inr (visit_stands (IsFault leaves offset at) IsEvalPlan (of_eval leaves offset at) None values other v)))
  none_inside leaves offset at given (share_plan head child) row shares evals v = shares (inl tt)
  none_inside leaves offset at given (list_plan head elements offsets validity) row shares evals v = v
  none_inside leaves offset at given (row_idx_plan head) row shares evals v = v
  none_inside leaves offset at given (scan_plan head segment coding) row shares evals v = v
  none_inside leaves offset at given (zoned_plan head zones content table) row shares evals (inl v) = v
  none_inside leaves offset at given (zoned_plan head zones content table) row shares evals (inr v) = none_inside leaves offset at given content row (λ s. shares (inr (inl s))) (λ s. evals (inr (inl s))) v
  none_inside leaves offset at given (pruning_plan head pruning table) row shares evals (inl v) = v
  none_inside leaves offset at given (pruning_plan head pruning table) row shares evals (inr (other, less, v)) = none_inside leaves offset at given table other (λ s. shares (inr s)) (λ s. evals (inr s)) v

  none_inside_in : (leaves : Leaves) (offset at : ℕ) (given : GivenValues) (ps : Plans) (row : ℕ) → (StandsAmong IsSharePlan ps → ⊥) → (StandsAmong IsTakeOverEval ps → ⊥) → VisitsIn (IsFault leaves offset at) (Some given) ps row → ⊥
  none_inside_in leaves offset at given no_plans row shares evals v = v
  none_inside_in leaves offset at given (plan first rest) row shares evals v =
      match_none (nat_lt row (plan_head first).rows) (Visits (IsFault leaves offset at) (Some given) first row) (VisitsIn (IsFault leaves offset at) (Some given) rest (row - (plan_head first).rows))
      (none_inside leaves offset at given first row (λ s. shares (inl s)) (λ s. evals (inl s)))
      (none_inside_in leaves offset at given rest (row - (plan_head first).rows) (λ s. shares (inr s)) (λ s. evals (inr s))) v

  none_inside_fields : (leaves : Leaves) (offset at : ℕ) (given : GivenValues) (ps : Plans) (row : ℕ) → (StandsAmong IsSharePlan ps → ⊥) → (StandsAmong IsTakeOverEval ps → ⊥) → VisitsField (IsFault leaves offset at) (Some given) ps row → ⊥
  none_inside_fields leaves offset at given no_plans row shares evals v = v
  none_inside_fields leaves offset at given (plan first rest) row shares evals (inl v) = none_inside leaves offset at given first row (λ s. shares (inl s)) (λ s. evals (inl s)) v
  none_inside_fields leaves offset at given (plan first rest) row shares evals (inr v) = none_inside_fields leaves offset at given rest row (λ s. shares (inr s)) (λ s. evals (inr s)) v

  none_inside_validity : (leaves : Leaves) (offset at : ℕ) (given : GivenValues) (validity : PlanValidity) (row : ℕ) → (StandsInValidity IsSharePlan validity → ⊥) → (StandsInValidity IsTakeOverEval validity → ⊥) → VisitsValidity (IsFault leaves offset at) (Some given) validity row → ⊥
  none_inside_validity leaves offset at given all_valid row shares evals v = v
  none_inside_validity leaves offset at given (valid_as validity) row shares evals v = none_inside leaves offset at given validity row shares evals v

pub fault_outside : (leaves : Leaves) (given : GivenValues) (offset : ℕ) (p : Plan) (start : ℕ) (bits : List Bool) (at : ℕ) → HasNoShare p → HasNoEvalBelowTake p → ¬ (HasInsideCause leaves (Some given) offset p start bits (EvalFault at))
fault_outside leaves given offset p start bits at shares evals (place, chosen, v) = none_inside leaves offset at given p (start + place) shares evals v
