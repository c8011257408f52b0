-- No share stands in the plan of a projection, and no expression below a take.
use Rattle.std.proofs.Common.{ℕ, ◌+◌, inl, inr, Bool, true, false, List, subst}
use Rattle.std.specs.Prelude.{if◌then◌else◌}
use Rattle.vx_base.specs.declared.dtypes.Nullability.TheVariants.{NonNullable}
use Rattle.vx_base.specs.Data.{struct_type, Members, no_members, member}
use Rattle.vx_expr.specs.Bound.{Bound}
use Rattle.vx_expr.specs.Mentions.{is_root, uses_root, uses_row_number}
use Rattle.vx_expr.specs.Rewritten.{with_row_number, row_number_as_root, over_row_number}
use Rattle.vx_expr.specs.Terms.{Term}
use Rattle.vx_expr.specs.Types.{row_number_type}
use Rattle.vx_layout.specs.Kept.{KeptFields, all, only, is_kept}
use Rattle.vx_layout.specs.Rows.{struct_members}
use Rattle.vx_layout.specs.Trees.{Tree, missing, leaf, chunks, fields, dict, lists, zoned, Forest, no_trees, tree, Validity, always, valid_by}
use Rattle.vx_lower.specs.KeptRows.{kept_pack}
use Rattle.vx_lower.specs.Lowered.{lowered, lowered_in, lowered_fields, lowered_validity, packing, kept_head, tell, with_zones}
use Rattle.vx_lower.specs.Numbered.{numbered, each_numbered, validity_numbered}
use Rattle.vx_lower.specs.Projected.{Projection, kept_of}
use Rattle.vx_lower.specs.RowIndex.{head_with, row_index_plan_from_by}
use Rattle.vx_lower.specs.Sizes.{plan_size, plans_size}
use Rattle.vx_rows.specs.Heads.{Head}
use Rattle.vx_rows.specs.Zones.{Zones}
use Rattle.vx_plan.specs.Plans.{Plan, no_plan, concat_plan, eval_plan, filter_plan, pack_plan, take_plan, share_plan, list_plan, row_idx_plan, scan_plan, zoned_plan, pruning_plan, Plans, no_plans, plan, PlanValidity, all_valid, valid_as, plan_head}
use Rattle.vx_steps.specs.Below.{StandsIn, StandsAmong, StandsInValidity, IsSharePlan, IsEvalPlan, IsTakeOverEval, HasNoShare, HasNoEvalBelowTake}
use Rattle.vx_scan.specs.PlanTexts.{held_tree, IsProjectionPlan, IsProjectionPlanBy}

-- ---- other numbers

-- what stands in a plan with other numbers stands in the plan
module _ (P : Plan → Type 0) (own : (first : ℕ) (p : Plan) → P (numbered first p) → P p) where
  mutual
    unnumbered : (first : ℕ) (p : Plan) → StandsIn P (numbered first p) → StandsIn P p
    unnumbered first (no_plan head) s = own first (no_plan head) s
    unnumbered first (concat_plan head children) (inl s) = inl (own first (concat_plan head children) s)
    unnumbered first (concat_plan head children) (inr s) = inr (each_unnumbered first children s)
    unnumbered first (eval_plan head e child) (inl s) = inl (own first (eval_plan head e child) s)
    unnumbered first (eval_plan head e child) (inr s) = inr (unnumbered first child s)
    unnumbered first (filter_plan head child) (inl s) = inl (own first (filter_plan head child) s)
    unnumbered first (filter_plan head child) (inr s) = inr (unnumbered first child s)
    unnumbered first (pack_plan head children validity) (inl s) = inl (own first (pack_plan head children validity) s)
    unnumbered first (pack_plan head children validity) (inr (inl s)) = inr (inl (each_unnumbered first children s))
    unnumbered first (pack_plan head children validity) (inr (inr s)) = inr (inr (validity_unnumbered (first + plans_size children) validity s))
    unnumbered first (take_plan head codes values) (inl s) = inl (own first (take_plan head codes values) s)
    unnumbered first (take_plan head codes values) (inr (inl s)) = inr (inl (unnumbered first codes s))
    unnumbered first (take_plan head codes values) (inr (inr s)) = inr (inr (unnumbered (first + plan_size codes) values s))
    unnumbered first (share_plan head child) (inl s) = inl (own first (share_plan head child) s)
    unnumbered first (share_plan head child) (inr s) = inr (unnumbered first child s)
    unnumbered first (list_plan head elements offsets validity) (inl s) = inl (own first (list_plan head elements offsets validity) s)
    unnumbered first (list_plan head elements offsets validity) (inr (inl s)) = inr (inl (unnumbered first elements s))
    unnumbered first (list_plan head elements offsets validity) (inr (inr (inl s))) = inr (inr (inl (unnumbered (first + plan_size elements) offsets s)))
    unnumbered first (list_plan head elements offsets validity) (inr (inr (inr s))) = inr (inr (inr (validity_unnumbered (first + plan_size elements + plan_size offsets) validity s)))
    unnumbered first (row_idx_plan head) s = own first (row_idx_plan head) s
    unnumbered first (scan_plan head segment coding) s = own first (scan_plan head segment coding) s
    unnumbered first (zoned_plan head zones content table) (inl s) = inl (own first (zoned_plan head zones content table) s)
    unnumbered first (zoned_plan head zones content table) (inr (inl s)) = inr (inl (unnumbered first content s))
    unnumbered first (zoned_plan head zones content table) (inr (inr s)) = inr (inr (unnumbered (first + plan_size content) table s))
    unnumbered first (pruning_plan head pruning table) (inl s) = inl (own first (pruning_plan head pruning table) s)
    unnumbered first (pruning_plan head pruning table) (inr s) = inr (unnumbered first table s)

    each_unnumbered : (first : ℕ) (ps : Plans) → StandsAmong P (each_numbered first ps) → StandsAmong P ps
    each_unnumbered first no_plans s = s
    each_unnumbered first (plan one rest) (inl s) = inl (unnumbered first one s)
    each_unnumbered first (plan one rest) (inr s) = inr (each_unnumbered (first + plan_size one) rest s)

    validity_unnumbered : (first : ℕ) (validity : PlanValidity) → StandsInValidity P (validity_numbered first validity) → StandsInValidity P validity
    validity_unnumbered first all_valid s = s
    validity_unnumbered first (valid_as validity) s = unnumbered first validity s

own_share : (first : ℕ) (p : Plan) → IsSharePlan (numbered first p) → IsSharePlan p
own_share first (no_plan head) s = s
own_share first (concat_plan head children) s = s
own_share first (eval_plan head e child) s = s
own_share first (filter_plan head child) s = s
own_share first (pack_plan head children validity) s = s
own_share first (take_plan head codes values) s = s
own_share first (share_plan head child) s = s
own_share first (list_plan head elements offsets validity) s = s
own_share first (row_idx_plan head) s = s
own_share first (scan_plan head segment coding) s = s
own_share first (zoned_plan head zones content table) s = s
own_share first (pruning_plan head pruning table) s = s

own_eval : (first : ℕ) (p : Plan) → IsEvalPlan (numbered first p) → IsEvalPlan p
own_eval first (no_plan head) s = s
own_eval first (concat_plan head children) s = s
own_eval first (eval_plan head e child) s = s
own_eval first (filter_plan head child) s = s
own_eval first (pack_plan head children validity) s = s
own_eval first (take_plan head codes values) s = s
own_eval first (share_plan head child) s = s
own_eval first (list_plan head elements offsets validity) s = s
own_eval first (row_idx_plan head) s = s
own_eval first (scan_plan head segment coding) s = s
own_eval first (zoned_plan head zones content table) s = s
own_eval first (pruning_plan head pruning table) s = s

own_below : (first : ℕ) (p : Plan) → IsTakeOverEval (numbered first p) → IsTakeOverEval p
own_below first (no_plan head) s = s
own_below first (concat_plan head children) s = s
own_below first (eval_plan head e child) s = s
own_below first (filter_plan head child) s = s
own_below first (pack_plan head children validity) s = s
own_below first (take_plan head codes values) (inl s) = inl (unnumbered IsEvalPlan own_eval first codes s)
own_below first (take_plan head codes values) (inr s) = inr (unnumbered IsEvalPlan own_eval (first + plan_size codes) values s)
own_below first (share_plan head child) s = s
own_below first (list_plan head elements offsets validity) s = s
own_below first (row_idx_plan head) s = s
own_below first (scan_plan head segment coding) s = s
own_below first (zoned_plan head zones content table) s = s
own_below first (pruning_plan head pruning table) s = s

-- ---- lowered trees

-- the plan is neither a take nor a share nor an expression
abbrev IsBare : Plan → Type 0
IsBare (eval_plan head e child) = ⊥
IsBare (take_plan head codes values) = ⊥
IsBare (share_plan head child) = ⊥
IsBare p = Unit {0}

kept_none : (b : Bool) (P : Plan → Type 0) (ones others : Plans) → (StandsAmong P ones → ⊥) → (StandsAmong P others → ⊥) → StandsAmong P (if b then ones else others) → ⊥
kept_none true P ones others one two s = one s
kept_none false P ones others one two s = two s

more_none : (P : Plan → Type 0) (p : Plan) (ps : Plans) → (StandsIn P p → ⊥) → (StandsAmong P ps → ⊥) → StandsAmong P (plan p ps) → ⊥
more_none P p ps one two (inl s) = one s
more_none P p ps one two (inr s) = two s

-- What is no such plan by itself, no take of a dictionary, and no expression over it where such fields are kept, stands in
-- no tree that is lowered so.
module _ (P : Plan → Type 0) (Allows : KeptFields → Type 0) (whole : Allows all) (bare : (p : Plan) → IsBare p → P p → ⊥)
    (takes : (head : Head) (codes values : Tree) → P (take_plan head (lowered codes all) (lowered values all)) → ⊥)
    (evals : (names : List (List ℕ)) → Allows (only names) → (head : Head) (e : Term) (p : Plan) → P (eval_plan head e p) → ⊥) where
  packed_none : (kept : KeptFields) → Allows kept → (head : Head) (p : Plan) → (StandsIn P p → ⊥) → StandsIn P (packing kept head p) → ⊥
  packed_none all allowed head p none s = none s
  packed_none (only names) allowed head p none (inl s) = evals names allowed (kept_head (only names) head) (kept_pack (only names) head.dtype) p s
  packed_none (only names) allowed head p none (inr s) = none s

  zones_none : (b : Bool) (head : Head) (zones : Zones) (content table : Plan) → (StandsIn P content → ⊥) → (StandsIn P table → ⊥) → StandsIn P (with_zones b head zones content table) → ⊥
  zones_none true head zones content table one two (inl s) = bare (zoned_plan head zones content table) tt s
  zones_none true head zones content table one two (inr (inl s)) = one s
  zones_none true head zones content table one two (inr (inr s)) = two s
  zones_none false head zones content table one two s = one s

  take_none : (head : Head) (codes values : Tree) → (StandsIn P (lowered codes all) → ⊥) → (StandsIn P (lowered values all) → ⊥) → StandsIn P (take_plan head (lowered codes all) (lowered values all)) → ⊥
  take_none head codes values one two (inl s) = takes head codes values s
  take_none head codes values one two (inr (inl s)) = one s
  take_none head codes values one two (inr (inr s)) = two s

  mutual
    lowered_none : (t : Tree) (kept : KeptFields) → Allows kept → StandsIn P (lowered t kept) → ⊥
    lowered_none (missing head) kept allowed s = bare (no_plan head) tt s
    lowered_none (leaf head segment coding) kept allowed (inl s) = bare (filter_plan head (scan_plan head segment coding)) tt s
    lowered_none (leaf head segment coding) kept allowed (inr s) = bare (scan_plan head segment coding) tt s
    lowered_none (chunks head forest) kept allowed (inl s) = bare (concat_plan (kept_head kept head) (lowered_in forest kept)) tt s
    lowered_none (chunks head forest) kept allowed (inr s) = chunks_none forest kept allowed s
    lowered_none (fields head forest validity) kept allowed (inl s) = bare (pack_plan (kept_head kept head) (lowered_fields (struct_members head.dtype) forest kept) (lowered_validity validity)) tt s
    lowered_none (fields head forest validity) kept allowed (inr (inl s)) = fields_none (struct_members head.dtype) forest kept s
    lowered_none (fields head forest validity) kept allowed (inr (inr s)) = validity_none validity s
    lowered_none (dict head values codes) kept allowed s =
        packed_none kept allowed head (take_plan head (lowered codes all) (lowered values all)) (take_none head codes values (lowered_none codes all whole) (lowered_none values all whole)) s
    lowered_none (lists head elements offsets validity) kept allowed (inl s) = bare (list_plan head (lowered elements all) (lowered offsets all) (lowered_validity validity)) tt s
    lowered_none (lists head elements offsets validity) kept allowed (inr (inl s)) = lowered_none elements all whole s
    lowered_none (lists head elements offsets validity) kept allowed (inr (inr (inl s))) = lowered_none offsets all whole s
    lowered_none (lists head elements offsets validity) kept allowed (inr (inr (inr s))) = validity_none validity s
    lowered_none (zoned head zones content table) kept allowed s =
        zones_none (tell zones.zone_len zones.statistics) (kept_head kept head) zones (lowered content kept) (lowered table all) (lowered_none content kept allowed) (lowered_none table all whole) s

    chunks_none : (forest : Forest) (kept : KeptFields) → Allows kept → StandsAmong P (lowered_in forest kept) → ⊥
    chunks_none no_trees kept allowed s = s
    chunks_none (tree first rest) kept allowed (inl s) = lowered_none first kept allowed s
    chunks_none (tree first rest) kept allowed (inr s) = chunks_none rest kept allowed s

    fields_none : (ms : Members) (forest : Forest) (kept : KeptFields) → StandsAmong P (lowered_fields ms forest kept) → ⊥
    fields_none no_members forest kept s = s
    fields_none (member name t ms) no_trees kept s =
        let gap : Plan = no_plan (record { number = 0; dtype = t; rows = 0 }) in
        kept_none (is_kept kept name) P (plan gap (lowered_fields ms no_trees kept)) (lowered_fields ms no_trees kept)
        (more_none P gap (lowered_fields ms no_trees kept) (λ one. bare gap tt one) (fields_none ms no_trees kept)) (fields_none ms no_trees kept) s
    fields_none (member name t ms) (tree first rest) kept s =
        kept_none (is_kept kept name) P (plan (lowered first all) (lowered_fields ms rest kept)) (lowered_fields ms rest kept)
        (more_none P (lowered first all) (lowered_fields ms rest kept) (lowered_none first all whole) (fields_none ms rest kept)) (fields_none ms rest kept) s

    validity_none : (validity : Validity) → StandsInValidity P (lowered_validity validity) → ⊥
    validity_none always s = s
    validity_none (valid_by validity) s = lowered_none validity all whole s

bare_share : (p : Plan) → IsBare p → IsSharePlan p → ⊥
bare_share (no_plan head) is s = s
bare_share (concat_plan head children) is s = s
bare_share (eval_plan head e child) is s = s
bare_share (filter_plan head child) is s = s
bare_share (pack_plan head children validity) is s = s
bare_share (take_plan head codes values) is s = s
bare_share (share_plan head child) is s = is
bare_share (list_plan head elements offsets validity) is s = s
bare_share (row_idx_plan head) is s = s
bare_share (scan_plan head segment coding) is s = s
bare_share (zoned_plan head zones content table) is s = s
bare_share (pruning_plan head pruning table) is s = s

bare_eval : (p : Plan) → IsBare p → IsEvalPlan p → ⊥
bare_eval (no_plan head) is s = s
bare_eval (concat_plan head children) is s = s
bare_eval (eval_plan head e child) is s = is
bare_eval (filter_plan head child) is s = s
bare_eval (pack_plan head children validity) is s = s
bare_eval (take_plan head codes values) is s = s
bare_eval (share_plan head child) is s = s
bare_eval (list_plan head elements offsets validity) is s = s
bare_eval (row_idx_plan head) is s = s
bare_eval (scan_plan head segment coding) is s = s
bare_eval (zoned_plan head zones content table) is s = s
bare_eval (pruning_plan head pruning table) is s = s

bare_below : (p : Plan) → IsBare p → IsTakeOverEval p → ⊥
bare_below (no_plan head) is s = s
bare_below (concat_plan head children) is s = s
bare_below (eval_plan head e child) is s = s
bare_below (filter_plan head child) is s = s
bare_below (pack_plan head children validity) is s = s
bare_below (take_plan head codes values) is s = is
bare_below (share_plan head child) is s = s
bare_below (list_plan head elements offsets validity) is s = s
bare_below (row_idx_plan head) is s = s
bare_below (scan_plan head segment coding) is s = s
bare_below (zoned_plan head zones content table) is s = s
bare_below (pruning_plan head pruning table) is s = s

-- any fields may be kept
abbrev AnyFields : KeptFields → Type 0
AnyFields kept = Unit {0}

-- all are
abbrev AllFields : KeptFields → Type 0
AllFields all = Unit {0}
AllFields (only names) = ⊥

-- an expression stands in no tree that is lowered with all fields
whole_none : (t : Tree) → StandsIn IsEvalPlan (lowered t all) → ⊥
whole_none t = lowered_none IsEvalPlan AllFields tt bare_eval (λ head codes values s. s) (λ names never head e p s. never) t all tt

take_over_none : (head : Head) (codes values : Tree) → IsTakeOverEval (take_plan head (lowered codes all) (lowered values all)) → ⊥
take_over_none head codes values (inl s) = whole_none codes s
take_over_none head codes values (inr s) = whole_none values s

tree_none : (p : Projection) → HasNoShare (held_tree p)
tree_none p s =
    lowered_none IsSharePlan AnyFields tt bare_share (λ head codes values s. s) (λ names any head e q s. s) p.root (kept_of p) tt (unnumbered IsSharePlan own_share 0 (lowered p.root (kept_of p)) s)

tree_below : (p : Projection) → HasNoEvalBelowTake (held_tree p)
tree_below p s =
    lowered_none IsTakeOverEval AnyFields tt bare_below take_over_none (λ names any head e q s. s) p.root (kept_of p) tt (unnumbered IsTakeOverEval own_below 0 (lowered p.root (kept_of p)) s)

-- ---- the plan of a projection

-- Over a plan in which nothing of a kind stands, no expression brings such, if it isn't one itself and no bare plan is.
module _ (P : Plan → Type 0) (bare : (p : Plan) → IsBare p → P p → ⊥) (evals : (head : Head) (e : Term) (p : Plan) → P (eval_plan head e p) → ⊥) where
  -- an expression over the plan
  eval_none : (head : Head) (e : Term) (child : Plan) → (StandsIn P child → ⊥) → StandsIn P (eval_plan head e child) → ⊥
  eval_none head e child none (inl s) = evals head e child s
  eval_none head e child none (inr s) = none s

  structs_none : (head : Head) → StandsIn P (pack_plan head no_plans all_valid) → ⊥
  structs_none head (inl s) = bare (pack_plan head no_plans all_valid) tt s
  structs_none head (inr (inl s)) = s
  structs_none head (inr (inr s)) = s

  numbers_none : (head numbers : Head) (child : Plan) → (StandsIn P child → ⊥) → StandsIn P (pack_plan head (plan (row_idx_plan numbers) (plan child no_plans)) all_valid) → ⊥
  numbers_none head numbers child none (inl s) = bare (pack_plan head (plan (row_idx_plan numbers) (plan child no_plans)) all_valid) tt s
  numbers_none head numbers child none (inr (inl (inl s))) = bare (row_idx_plan numbers) tt s
  numbers_none head numbers child none (inr (inl (inr (inl s)))) = none s
  numbers_none head numbers child none (inr (inl (inr (inr s)))) = s
  numbers_none head numbers child none (inr (inr s)) = s

  over_none : (root row_number : Bool) (n : ℕ) (a : Bound) (child : Plan) → (StandsIn P child → ⊥) → StandsIn P (row_index_plan_from_by root row_number n a child) → ⊥
  over_none false false n a child none s =
      eval_none (head_with (n + 1) a.dtype child) a.term (pack_plan (head_with n (struct_type no_members NonNullable) child) no_plans all_valid) (structs_none (head_with n (struct_type no_members NonNullable) child)) s
  over_none false true n a child none s =
      eval_none (head_with (n + 1) a.dtype child) (row_number_as_root a).term (row_idx_plan (head_with n row_number_type child)) (bare (row_idx_plan (head_with n row_number_type child)) tt) s
  over_none true false n a child none s = eval_none (head_with n a.dtype child) a.term child none s
  over_none true true n a child none s =
      let rows : Head = head_with n row_number_type child in
      let both : Head = head_with (n + 1) (with_row_number (plan_head child).dtype) child in
      eval_none (head_with (n + 2) a.dtype child) (over_row_number a).term (pack_plan both (plan (row_idx_plan rows) (plan child no_plans)) all_valid) (numbers_none both rows child none) s

  by_none : (b : Bool) (p : Projection) (q : Plan) → (StandsIn P (held_tree p) → ⊥) → IsProjectionPlanBy b p q → StandsIn P q → ⊥
  by_none true p q none is s = none (subst (StandsIn P) is s)
  by_none false p q none (n, is) s = over_none (uses_root p.expression.term) (uses_row_number p.expression.term) n p.expression (held_tree p) none (subst (StandsIn P) is s)

pub none_shared : (p : Projection) (q : Plan) → IsProjectionPlan p q → HasNoShare q
none_shared p q is = by_none IsSharePlan bare_share (λ head e child s. s) (is_root p.expression.term) p q (tree_none p) is

pub none_below : (p : Projection) (q : Plan) → IsProjectionPlan p q → HasNoEvalBelowTake q
none_below p q is = by_none IsTakeOverEval bare_below (λ head e child s. s) (is_root p.expression.term) p q (tree_below p) is
