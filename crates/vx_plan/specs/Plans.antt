-- The plan that a table's number stands for, as a tree. The table is unfolded once, here; all meaning is by
-- recursion over the tree.
use Rattle.std.specs.Prelude.{ℕ, zero, suc, Bool, true, false, List, [], ◌∷◌, map, Option, Some, None}
use Rattle.std.specs.List.{slice_get}
use Rattle.vx_base.specs.declared.codings.Coding.{Coding}
use Rattle.vx_base.specs.declared.codings.Coding.TheVariants.{Plain}
use Rattle.vx_expr.specs.Terms.{Term}
use Rattle.vx_plan.specs.declared.nodes.PlanKind.{PlanKind}
use Rattle.vx_plan.specs.declared.nodes.PlanKind.TheVariants as kinds
use Rattle.vx_plan.specs.Nodes.{Node, absent}
use Rattle.vx_plan.specs.Pruning.{Pruning, pruning_of}
use Rattle.vx_rows.specs.Heads.{Head}
use Rattle.vx_rows.specs.Zones.{Zones, zones_of}

-- A scan names its segment and how that is coded; a take has its codes, then its values; a list its elements, then its offsets; zoned
-- data the data, then the zones; a pruning plan is over the zones alone.
mutual
  pub data Plan : Type 0 where
    no_plan : Head → Plan
    concat_plan : Head → Plans → Plan
    eval_plan : Head → Term → Plan → Plan
    filter_plan : Head → Plan → Plan
    pack_plan : Head → Plans → PlanValidity → Plan
    take_plan : Head → Plan → Plan → Plan
    share_plan : Head → Plan → Plan
    list_plan : Head → Plan → Plan → PlanValidity → Plan
    row_idx_plan : Head → Plan
    scan_plan : Head → ℕ → Coding → Plan
    zoned_plan : Head → Zones → Plan → Plan → Plan
    pruning_plan : Head → Pruning → Plan → Plan

  pub data Plans : Type 0 where
    no_plans : Plans
    plan : Plan → Plans → Plans

  -- which rows are null: none of them, or those at which a plan of truth values is false
  pub data PlanValidity : Type 0 where
    all_valid : PlanValidity
    valid_as : Plan → PlanValidity

abbrev pub plan_head : Plan → Head
plan_head (no_plan head) = head
plan_head (concat_plan head children) = head
plan_head (eval_plan head e child) = head
plan_head (filter_plan head child) = head
plan_head (pack_plan head children validity) = head
plan_head (take_plan head codes values) = head
plan_head (share_plan head child) = head
plan_head (list_plan head elements offsets validity) = head
plan_head (row_idx_plan head) = head
plan_head (scan_plan head segment coding) = head
plan_head (zoned_plan head zones content table) = head
plan_head (pruning_plan head pruning table) = head

-- how the segment of a scan is coded; another plan has none, and is as a plain one
abbrev pub plan_coding : Plan → Coding
plan_coding (scan_plan head segment coding) = coding
plan_coding p = Plain

-- ---- growing

abbrev pub head_at : ℕ → Node → Head
head_at number node = record { number = number; dtype = node.dtype; rows = node.rows }

-- a plan that isn't there
abbrev pub plan_gap : ℕ → Plan
plan_gap number = no_plan (head_at number absent)

abbrev pub plans_from : List Plan → Plans
plans_from [] = no_plans
plans_from (p ∷ ps) = plan p (plans_from ps)

abbrev pub plan_in : List Plan → ℕ → Plan
plan_in [] place = plan_gap 0
plan_in (p ∷ ps) zero = p
plan_in (p ∷ ps) (suc place) = plan_in ps place

abbrev pub last_plan : List Plan → Plan
last_plan [] = plan_gap 0
last_plan (p ∷ []) = p
last_plan (p ∷ q ∷ ps) = last_plan (q ∷ ps)

abbrev pub front_plans : List Plan → List Plan
front_plans [] = []
front_plans (p ∷ []) = []
front_plans (p ∷ q ∷ ps) = p ∷ front_plans (q ∷ ps)

-- the validity comes last, where one was given
abbrev pub last_validity : Bool → List Plan → PlanValidity
last_validity false ps = all_valid
last_validity true ps = valid_as (last_plan ps)

abbrev pub field_plans : Bool → List Plan → List Plan
field_plans false ps = ps
field_plans true ps = front_plans ps

-- a plan of a kind over the plans of its children
abbrev pub plan_grown_as : Head → PlanKind → List Plan → Plan
plan_grown_as head kinds.Concat ps = concat_plan head (plans_from ps)
plan_grown_as head (kinds.Eval a) ps = eval_plan head a.term (plan_in ps 0)
plan_grown_as head kinds.Filter ps = filter_plan head (plan_in ps 0)
plan_grown_as head (kinds.Pack has_validity) ps = pack_plan head (plans_from (field_plans has_validity ps)) (last_validity has_validity ps)
plan_grown_as head kinds.Take ps = take_plan head (plan_in ps 0) (plan_in ps 1)
plan_grown_as head kinds.Share ps = share_plan head (plan_in ps 0)
plan_grown_as head (kinds.ListPack has_validity) ps = list_plan head (plan_in ps 0) (plan_in ps 1) (last_validity has_validity ps)
plan_grown_as head kinds.RowIdx ps = row_idx_plan head
plan_grown_as head (kinds.SegmentScan segment coding) ps = scan_plan head segment coding
plan_grown_as head (kinds.Zoned zone_len stats) ps = zoned_plan head (zones_of false zone_len stats) (plan_in ps 0) (plan_in ps 1)
plan_grown_as head (kinds.LegacyStats zone_len stats) ps = zoned_plan head (zones_of true zone_len stats) (plan_in ps 0) (plan_in ps 1)
plan_grown_as head (kinds.Pruning zone_len stats proof) ps = pruning_plan head (pruning_of zone_len stats proof) (plan_in ps 0)

abbrev pub plan_grown : (ℕ → Plan) → ℕ → Option Node → Plan
plan_grown below number None = plan_gap number
plan_grown below number (Some node) = plan_grown_as (head_at number node) node.kind (map below node.children)

-- the plan of a node down to so many levels
unfoldable pub plan_grow : ℕ → List Node → ℕ → Plan
plan_grow zero nodes number = plan_gap number
plan_grow (suc levels) nodes number = plan_grown (plan_grow levels nodes) number (slice_get nodes number)

-- The plan of a number: below it stand no more levels than its number says.
abbrev pub plan_at : List Node → ℕ → Plan
plan_at nodes number = plan_grow (suc number) nodes number
