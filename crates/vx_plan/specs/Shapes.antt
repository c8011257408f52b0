-- What a plan of a table is over: its law, and what is known of it and of its children.
use Rattle.std.specs.Prelude.{◌≡◌, ℕ, Bool, true, false, List, [], ◌∷◌, map, IsSomeAnd}
use Rattle.std.specs.List.{slice_get}
use Rattle.vx_expr.specs.declared.statistics.Statistic.{Statistic}
use Rattle.vx_expr.specs.Bound.{Bound}
use Rattle.vx_plan.specs.declared.nodes.PlanKind.{PlanKind}
use Rattle.vx_plan.specs.declared.nodes.PlanKind.TheVariants as kinds
use Rattle.vx_plan.specs.declared.shapes.Shape.{Shape}
use Rattle.vx_plan.specs.declared.shapes.Shape.TheVariants as shapes
use Rattle.vx_plan.specs.Kinds.{coding_of}
use Rattle.vx_plan.specs.Nodes.{Node}
use Rattle.vx_rows.specs.Zones.{zones_of}
use Rattle.vx_plan.specs.Pruning.{pruning_of}
use Rattle.vx_plan.specs.Plans.{Plan, head_at, plan_at, plan_grown_as, plans_from, field_plans, last_validity, concat_plan, eval_plan, filter_plan, pack_plan, take_plan, share_plan, row_idx_plan, scan_plan, zoned_plan, pruning_plan}
use Rattle.vx_plan.specs.Tables.{IsGoodNode}

-- The plan of the number is this one; its node has the kind and the children.
pub record IsOver (nodes : List Node) (n : ℕ) (node : Node) (p : Plan) (kind : PlanKind) (children : List ℕ) : Type 0 where
  pub law : plan_at nodes n ≡ p
  pub kind_is : node.kind ≡ kind
  pub children_are : node.children ≡ children
  pub good : IsGoodNode nodes n node

-- An expression is that of the node.
pub record IsWorkedOver (nodes : List Node) (n : ℕ) (node : Node) (child : ℕ) : Type 0 where
  pub expression : Bound
  pub over : IsOver nodes n node (eval_plan (head_at n node) expression.term (plan_at nodes child)) (kinds.Eval expression) (child ∷ [])

-- A list has its elements first, then its offsets.
pub record IsListOver (nodes : List Node) (n : ℕ) (node : Node) : Type 0 where
  pub has_validity : Bool
  pub over : IsOver nodes n node (plan_grown_as (head_at n node) (kinds.ListPack has_validity) (map (plan_at nodes) node.children)) (kinds.ListPack has_validity) node.children

abbrev pub zoned_kind : Bool → ℕ → List Statistic → PlanKind
zoned_kind false zone_len stats = kinds.Zoned zone_len stats
zoned_kind true zone_len stats = kinds.LegacyStats zone_len stats

-- Zoned data has its data first, then the zones, in either form.
pub record IsZonedOver (nodes : List Node) (n : ℕ) (node : Node) (content table : ℕ) : Type 0 where
  pub is_legacy : Bool
  pub zone_len : ℕ
  pub stats : List Statistic
  pub over : IsOver nodes n node (zoned_plan (head_at n node) (zones_of is_legacy zone_len stats) (plan_at nodes content) (plan_at nodes table)) (zoned_kind is_legacy zone_len stats) (content ∷ table ∷ [])

-- A pruning plan is over its zones.
pub record IsPruningOver (nodes : List Node) (n : ℕ) (node : Node) (table : ℕ) : Type 0 where
  pub zone_len : ℕ
  pub stats : List Statistic
  pub proof : Bound
  pub over : IsOver nodes n node (pruning_plan (head_at n node) (pruning_of zone_len stats proof) (plan_at nodes table)) (kinds.Pruning zone_len stats proof) (table ∷ [])

abbrev pub fields_plan : List Node → ℕ → Node → Bool → Plan
fields_plan nodes n node has_validity = pack_plan (head_at n node) (plans_from (field_plans has_validity (map (plan_at nodes) node.children))) (last_validity has_validity (map (plan_at nodes) node.children))

abbrev pub ShapeOf : List Node → ℕ → Node → Shape → Type 0
ShapeOf nodes n node (shapes.Leaf segment) = IsOver nodes n node (scan_plan (head_at n node) segment (coding_of node.kind)) (kinds.SegmentScan segment (coding_of node.kind)) []
ShapeOf nodes n node (shapes.Same child) = IsOver nodes n node (filter_plan (head_at n node) (plan_at nodes child)) kinds.Filter (child ∷ [])
ShapeOf nodes n node shapes.Chunks = IsOver nodes n node (concat_plan (head_at n node) (plans_from (map (plan_at nodes) node.children))) kinds.Concat node.children
ShapeOf nodes n node (shapes.Fields has_validity) = IsOver nodes n node (fields_plan nodes n node has_validity) (kinds.Pack has_validity) node.children
ShapeOf nodes n node (shapes.LookUp codes values) = IsOver nodes n node (take_plan (head_at n node) (plan_at nodes codes) (plan_at nodes values)) kinds.Take (codes ∷ values ∷ [])
ShapeOf nodes n node (shapes.Over child) = IsWorkedOver nodes n node child
ShapeOf nodes n node (shapes.Shared child) = IsOver nodes n node (share_plan (head_at n node) (plan_at nodes child)) kinds.Share (child ∷ [])
ShapeOf nodes n node shapes.Lists = IsListOver nodes n node
ShapeOf nodes n node shapes.RowNumbers = IsOver nodes n node (row_idx_plan (head_at n node)) kinds.RowIdx []
ShapeOf nodes n node (shapes.Zoned content table) = IsZonedOver nodes n node content table
ShapeOf nodes n node (shapes.Pruned table) = IsPruningOver nodes n node table

abbrev pub HasShape : List Node → ℕ → Shape → Type 0
HasShape nodes n shape = IsSomeAnd (slice_get nodes n) (λ node. ShapeOf nodes n node shape)
