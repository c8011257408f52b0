-- What a node of a layout is over, as the plan over it is: the numbers of its children, and its tree by theirs.
use Rattle.std.specs.Prelude.{◌≡◌, ℕ, ◌+◌, ◌<◌, ◌≤◌, Bool, true, false, List, [], ◌∷◌, ◌++◌, length, map, All, Option, None, Some, IfSome}
use Rattle.vx_base.specs.declared.codings.Coding.{Coding}
use Rattle.vx_base.specs.Data.{DataType}
use Rattle.vx_base.specs.Fits.{nullability_of}
use Rattle.vx_expr.specs.declared.statistics.Statistic.{Statistic}
use Rattle.vx_layout.specs.Kept.{KeptFields, all}
use Rattle.vx_layout.specs.Nodes.{Node}
use Rattle.vx_layout.specs.Rows.{struct_members}
use Rattle.vx_layout.specs.Shape.{IsGoodTree, IsLater}
use Rattle.vx_rows.specs.TypeForms.{IsStruct}
use Rattle.vx_rows.specs.Heads.{Head}
use Rattle.vx_rows.specs.Zones.{Zones, zones_of}
use Rattle.vx_layout.specs.Sound.{AreFields, IsValidity}
use Rattle.vx_layout.specs.Trees.{Tree, leaf, chunks, fields, dict, lists, zoned, Forest, Validity, always, valid_by, head_of, forest_from, subtree}
use Rattle.vx_plan.specs.Nodes.{Node as PlanNode}
use Rattle.vx_plan.specs.Plans.{Plan, pack_plan, plans_from}
use Rattle.vx_plan.specs.Rules.{given_validity, legacy_node, zoned_node}
use Rattle.vx_plan.specs.Tables.{IsGoodTable}
use Rattle.vx_lower.specs.declared.node_parts.NodeParts.{NodeParts}
use Rattle.vx_lower.specs.declared.node_parts.NodeParts.TheVariants as parts
use Rattle.vx_lower.specs.declared.node_parts.ZonedParts.{ZonedParts}
use Rattle.vx_lower.specs.Lowered.{lowered, lowered_validity, tell}
use Rattle.vx_lower.specs.Numbered.{list_size}
use Rattle.vx_lower.specs.Sizes.{plan_size}
use Rattle.vx_plan.specs.Limits.{most_plans}

-- the head of a node's tree
abbrev pub tree_head : List Node → ℕ → Head
tree_head nodes n = head_of (subtree nodes n)

-- the trees of these nodes, in order
abbrev pub trees_of : List Node → List ℕ → Forest
trees_of nodes ns = forest_from (map (subtree nodes) ns)

abbrev pub validity_of : List Node → Option ℕ → Validity
validity_of nodes None = always
validity_of nodes (Some n) = valid_by (subtree nodes n)

-- these are later nodes of the tree
abbrev pub AreLater : List Node → ℕ → List ℕ → Type 0
AreLater nodes n ns = All (IsLater nodes n) ns

-- the node stands for the tree, whose parts are those of these later nodes
pub record IsOver (nodes : List Node) (n : ℕ) (t : Tree) (ns : List ℕ) : Type 0 where
  pub tree : subtree nodes n ≡ t
  pub later : AreLater nodes n ns

abbrev pub IsLeafNode : List Node → ℕ → ℕ → Coding → Type 0
IsLeafNode nodes n segment coding = IsOver nodes n (leaf (tree_head nodes n) segment coding) []

abbrev pub IsChunked : List Node → ℕ → List ℕ → Type 0
IsChunked nodes n ns = IsOver nodes n (chunks (tree_head nodes n) (trees_of nodes ns)) ns

abbrev pub IsStructNode : List Node → ℕ → List ℕ → Option ℕ → Type 0
IsStructNode nodes n ns validity =
    IsOver nodes n (fields (tree_head nodes n) (trees_of nodes ns) (validity_of nodes validity)) (ns ++ given_validity validity)

abbrev pub IsLookUp : List Node → ℕ → ℕ → ℕ → Type 0
IsLookUp nodes n codes values = IsOver nodes n (dict (tree_head nodes n) (subtree nodes values) (subtree nodes codes)) (codes ∷ values ∷ [])

abbrev pub IsListNode : List Node → ℕ → ℕ → ℕ → Option ℕ → Type 0
IsListNode nodes n elements offsets validity =
    IsOver nodes n (lists (tree_head nodes n) (subtree nodes elements) (subtree nodes offsets) (validity_of nodes validity))
    (elements ∷ offsets ∷ given_validity validity)

-- the zones tell something, or they don't
pub record IsZonedNode (nodes : List Node) (n : ℕ) (tells : Bool) (zones : Zones) (content table : ℕ) : Type 0 where
  pub tells_is : tell zones.zone_len zones.statistics ≡ tells
  pub over : IsOver nodes n (zoned (tree_head nodes n) zones (subtree nodes content) (subtree nodes table)) (content ∷ table ∷ [])

-- zones that tell nothing, and the data beside them
pub record IsPlainNode (nodes : List Node) (n content : ℕ) : Type 0 where
  pub zones : Zones
  pub table : ℕ
  pub is : IsZonedNode nodes n false zones content table

abbrev pub zones_at : ZonedParts → Zones
zones_at told = zones_of told.is_legacy told.zone_len told.stats.now

abbrev pub PartsOf : List Node → ℕ → NodeParts → Type 0
PartsOf nodes n (parts.Leaf segment coding) = IsLeafNode nodes n segment coding
PartsOf nodes n (parts.Chunks ns) = IsChunked nodes n ns.now
PartsOf nodes n (parts.Fields ns validity) = IsStructNode nodes n ns.now validity
PartsOf nodes n (parts.LookUp codes values) = IsLookUp nodes n codes values
PartsOf nodes n (parts.Lists elements offsets validity) = IsListNode nodes n elements offsets validity
PartsOf nodes n (parts.Plain content) = IsPlainNode nodes n content
PartsOf nodes n (parts.Zoned told) = IsZonedNode nodes n true (zones_at told) told.content told.table

-- ---- what is asked before nodes are lowered into a table

-- There is such a node in a good tree, and room for its plan in a good table.
pub record CanLower (nodes : List Node) (n : ℕ) (kept : KeptFields) (table : List PlanNode) : Type 0 where
  pub tree : IsGoodTree nodes
  pub known : n < length nodes
  pub room : length table + plan_size (lowered (subtree nodes n) kept) ≤ most_plans
  pub good : IsGoodTable table

-- the plans of these nodes
abbrev pub lowered_each : List Node → KeptFields → List ℕ → List Plan
lowered_each nodes kept ns = map (λ n. lowered (subtree nodes n) kept) ns

-- the same of later nodes in a row, and of a plan over them
pub record CanLowerEach (nodes : List Node) (n : ℕ) (ns : List ℕ) (kept : KeptFields) (table : List PlanNode) : Type 0 where
  pub tree : IsGoodTree nodes
  pub later : AreLater nodes n ns
  pub room : length table + list_size (lowered_each nodes kept ns) < most_plans
  pub good : IsGoodTable table

-- the dtype, where one is given, is that of the node
abbrev pub IsTypeAt : List Node → ℕ → Option DataType → Type 0
IsTypeAt nodes n given = IfSome given (λ t. t ≡ (tree_head nodes n).dtype)

-- These nodes are the fields of structs of the dtype, and this one, where it is given, is their validity.
pub record ArePacked (nodes : List Node) (t : DataType) (rows : ℕ) (ns : List ℕ) (validity : Option ℕ) : Type 0 where
  pub structs : IsStruct t
  pub fields : AreFields (struct_members t) rows (trees_of nodes ns)
  pub valid : IsValidity (nullability_of t) rows (validity_of nodes validity)

-- the plan of such structs
abbrev pub packed_plan : List Node → Head → List ℕ → Option ℕ → Plan
packed_plan nodes head ns validity = pack_plan head (plans_from (lowered_each nodes all ns)) (lowered_validity (validity_of nodes validity))

-- the node of a plan of data and of its zones, in either form
abbrev pub zones_node : Bool → List PlanNode → ℕ → ℕ → ℕ → List Statistic → PlanNode
zones_node false table content zones zone_len stats = zoned_node table content zones zone_len stats
zones_node true table content zones zone_len stats = legacy_node table content zones zone_len stats
