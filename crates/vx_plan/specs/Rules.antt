-- What is asked of a plan, by rule. A rule speaks of the node and of the list of its children's nodes, so that
-- it stays true as the table grows.
use Rattle.std.specs.Prelude.{◌≡◌, ℕ, ◌+◌, ◌-◌, ◌<◌, ◌^◌, Bool, true, false, List, [], ◌∷◌, ◌++◌, length, map, All, Option, Some, None, IsSomeAnd}
use Rattle.std.specs.Int.{div_ceil}
use Rattle.std.specs.List.{slice_get, slice_index_or, sum_by}
use Rattle.vx_base.specs.declared.codings.Coding.{Coding}
use Rattle.vx_base.specs.declared.dtypes.Nullability.{Nullability}
use Rattle.vx_base.specs.declared.dtypes.Nullability.TheVariants.{NonNullable}
use Rattle.vx_base.specs.Data.{DataType, bool_type, struct_type, list_type, Members, no_members}
use Rattle.vx_base.specs.ColumnCalls.{IsUnsigned, nullable_where}
use Rattle.vx_base.specs.Fits.{nullability_of, takes_null}
use Rattle.vx_base.specs.Leaf.{IsLeaf}
use Rattle.vx_base.specs.Views.{FieldData, fields_in}
use Rattle.vx_expr.specs.declared.statistics.Statistic.{Statistic}
use Rattle.vx_expr.specs.Bound.{Bound, IsBoundTo}
use Rattle.vx_expr.specs.Mentions.{uses_row_number}
use Rattle.vx_expr.specs.Types.{row_number_type}
use Rattle.vx_plan.specs.declared.errors.PlanError.{PlanError}
use Rattle.vx_plan.specs.declared.errors.PlanError.TheVariants.{BadPlan, Memory}
use Rattle.vx_plan.specs.declared.nodes.PlanKind.{PlanKind}
use Rattle.vx_plan.specs.declared.nodes.PlanKind.TheVariants as kinds
use Rattle.vx_plan.specs.declared.rules.PlanRule.{PlanRule}
use Rattle.vx_plan.specs.declared.rules.PlanRule.TheVariants as rules
use Rattle.vx_plan.specs.Kinds.{stats_of, zone_len_of}
use Rattle.vx_plan.specs.Nodes.{Node, absent}
use Rattle.vx_rows.specs.TypeForms.{IsStruct, IsListOf, IsOffsets}
use Rattle.vx_rows.specs.Zones.{zones_type, StandOver}

-- ---- the nodes of children

abbrev pub node_at : List Node → ℕ → Node
node_at nodes number = slice_index_or nodes number absent

abbrev pub nodes_at : List Node → List ℕ → List Node
nodes_at nodes children = map (node_at nodes) children

-- ---- fields, and the validity behind them

-- how many of so many children are fields
abbrev pub field_count : Bool → ℕ → ℕ
field_count false count = count
field_count true count = count - 1

-- the fields of a plan of structs
abbrev pub members_of_type : DataType → Members
members_of_type (struct_type ms n) = ms
members_of_type t = no_members

abbrev pub members_at : List Node → ℕ → Members
members_at nodes number = members_of_type (node_at nodes number).dtype

abbrev pub IsValidityType : DataType → Type 0
IsValidityType t = t ≡ bool_type NonNullable

-- the validity at the place, where one is given, is one of truth values that are never null
abbrev pub ValidityFits : Bool → ℕ → List Node → Type 0
ValidityFits false place below = Unit {0}
ValidityFits true place below = IsSomeAnd (slice_get below place) (λ validity. IsValidityType validity.dtype)

-- and it has so many rows
abbrev pub ValidityRowsFit : Bool → ℕ → ℕ → List Node → Type 0
ValidityRowsFit false place rows below = Unit {0}
ValidityRowsFit true place rows below = IsSomeAnd (slice_get below place) (λ validity. validity.rows ≡ rows)

-- ---- dtypes

abbrev pub FieldFits : Option Node → Option FieldData → Type 0
FieldFits None field = Unit {0}
FieldFits (Some child) None = Unit {0}
FieldFits (Some child) (Some field) = child.dtype ≡ field.dtype

-- each of the first so many children has the dtype of the field at its place, where there is one
abbrev pub FieldsFit : Members → ℕ → List Node → Type 0
FieldsFit ms count below = (place : ℕ) → place < count → FieldFits (slice_get below place) (slice_get (fields_in ms) place)

abbrev pub PackFits : Bool → DataType → List Node → Type 0
PackFits has_validity (struct_type ms n) below = FieldsFit ms (field_count has_validity (length below)) below × ValidityFits has_validity (field_count has_validity (length below)) below
PackFits has_validity t below = ⊥

abbrev pub ListFits : Bool → List Node → Type 0
ListFits has_validity below = IsSomeAnd (slice_get below 1) (λ offsets. IsOffsets offsets.dtype) × ValidityFits has_validity 2 below

abbrev pub TypesFit : PlanKind → DataType → List Node → Type 0
TypesFit kinds.Concat t below = All (λ child. child.dtype ≡ t) below
TypesFit (kinds.Pack has_validity) t below = PackFits has_validity t below
TypesFit (kinds.ListPack has_validity) t below = ListFits has_validity below
TypesFit kind t below = Unit {0}

-- ---- rows

abbrev pub rows_of : Node → ℕ
rows_of node = node.rows

-- the row at which each of these starts, the first of them at this one
abbrev pub offsets_from : ℕ → List Node → List ℕ
offsets_from start [] = []
offsets_from start (child ∷ below) = start ∷ offsets_from (start + child.rows) below

-- the offsets of these children, and all their rows
pub record AreOffsets (below : List Node) (rows : ℕ) (offsets : List ℕ) : Type 0 where
  pub all : rows ≡ sum_by rows_of below
  pub running : offsets ≡ offsets_from 0 below

-- the offsets of a list are one more than its rows
abbrev pub ListRowsFit : Bool → ℕ → List Node → Type 0
ListRowsFit has_validity rows below = IsSomeAnd (slice_get below 1) (λ offsets. offsets.rows ≡ rows + 1) × ValidityRowsFit has_validity 2 rows below

abbrev pub RowsFit : PlanKind → ℕ → List Node → Type 0
RowsFit kinds.Concat rows below = rows < 2 ^ 64
RowsFit (kinds.Pack has_validity) rows below = All (λ child. child.rows ≡ rows) below
RowsFit (kinds.ListPack has_validity) rows below = ListRowsFit has_validity rows below
RowsFit kind rows below = Unit {0}

-- ---- expressions

abbrev pub IsBoundOver : PlanKind → List Node → Type 0
IsBoundOver (kinds.Eval a) below = IsSomeAnd (slice_get below 0) (λ child. IsBoundTo a child.dtype)
IsBoundOver kind below = Unit {0}

abbrev pub HasNoRowIndex : PlanKind → Type 0
HasNoRowIndex (kinds.Eval a) = uses_row_number a.term ≡ false
HasNoRowIndex kind = Unit {0}

-- ---- fields, codes, leaves and zones

-- one child for each field, and a validity exactly where nulls are taken
abbrev pub PackCountFits : Bool → DataType → ℕ → Type 0
PackCountFits has_validity (struct_type ms n) count = (field_count has_validity count ≡ length (fields_in ms)) × (has_validity ≡ takes_null n)
PackCountFits has_validity t count = ⊥

abbrev pub CountFits : PlanKind → DataType → ℕ → Type 0
CountFits (kinds.Pack has_validity) t count = PackCountFits has_validity t count
CountFits (kinds.ListPack has_validity) t count = has_validity ≡ takes_null (nullability_of t)
CountFits kind t count = Unit {0}

abbrev pub HasUnsignedCodes : PlanKind → List Node → Type 0
HasUnsignedCodes kinds.Take below = IsSomeAnd (slice_get below 0) (λ codes. IsUnsigned codes.dtype)
HasUnsignedCodes kind below = Unit {0}

abbrev pub HasLeafType : PlanKind → DataType → Type 0
HasLeafType (kinds.SegmentScan segment coding) t = IsLeaf t
HasLeafType kind t = Unit {0}

-- A table of zones over rows of a dtype: the zones have rows, each statistic stands over the dtype and has its
-- field, in order, and there is a row for each zone.
pub record AreZones (zone_len : ℕ) (stats : List Statistic) (t : DataType) (rows : ℕ) (zones : Node) : Type 0 where
  pub some_rows : 0 < zone_len
  pub stand : StandOver t stats
  pub dtype : zones.dtype ≡ zones_type t stats
  pub count : zones.rows ≡ div_ceil rows zone_len

abbrev pub ZonesFit : PlanKind → DataType → ℕ → List Node → Type 0
ZonesFit (kinds.Zoned zone_len stats) t rows below = IsSomeAnd (slice_get below 1) (AreZones zone_len stats t rows)
ZonesFit (kinds.LegacyStats zone_len stats) t rows below = IsSomeAnd (slice_get below 1) (AreZones zone_len stats t rows)
ZonesFit (kinds.Pruning zone_len stats proof) t rows below = IsSomeAnd (slice_get below 0) (AreZones zone_len stats proof.root rows)
ZonesFit kind t rows below = Unit {0}

-- ---- the rules

abbrev pub Asks : PlanRule → Node → List Node → Type 0
Asks rules.ChildTypes node below = TypesFit node.kind node.dtype below
Asks rules.ChildRows node below = RowsFit node.kind node.rows below
Asks rules.BoundExpression node below = IsBoundOver node.kind below
Asks rules.NoRowIndex node below = HasNoRowIndex node.kind
Asks rules.FieldCount node below = CountFits node.kind node.dtype (length node.children)
Asks rules.UnsignedCodes node below = HasUnsignedCodes node.kind below
Asks rules.LeafType node below = HasLeafType node.kind node.dtype
Asks rules.FittingZones node below = ZonesFit node.kind node.dtype node.rows below

abbrev pub rule_number : PlanRule → ℕ
rule_number rules.ChildTypes = 1
rule_number rules.ChildRows = 2
rule_number rules.BoundExpression = 3
rule_number rules.NoRowIndex = 4
rule_number rules.FieldCount = 5
rule_number rules.UnsignedCodes = 6
rule_number rules.LeafType = 7
rule_number rules.FittingZones = 8

abbrev pub KeepsRules : Node → List Node → Type 0
KeepsRules node below = (rule : PlanRule) → Asks rule node below

-- the node breaks the rule of that number, and keeps each rule before it
pub record IsFirstBroken (node : Node) (below : List Node) (number : ℕ) : Type 0 where
  pub rule : PlanRule
  pub number_is : number ≡ rule_number rule
  pub broken : Asks rule node below → ⊥
  pub earlier : (other : PlanRule) → rule_number other < rule_number rule → Asks other node below

-- what a refusal says of the node
abbrev pub RefusedBy : Node → List Node → PlanError → Type 0
RefusedBy node below (BadPlan number) = IsFirstBroken node below number
RefusedBy node below Memory = Unit {0}

-- ---- what each constructor makes of its parts

abbrev pub IsLike : Node → List Node → Type 0
IsLike node (child ∷ []) = (node.dtype ≡ child.dtype) × (node.rows ≡ child.rows)
IsLike node below = ⊥

abbrev pub IsLookUp : Node → List Node → Type 0
IsLookUp node (codes ∷ values ∷ []) = (node.dtype ≡ nullable_where (nullability_of codes.dtype) values.dtype) × (node.rows ≡ codes.rows)
IsLookUp node below = ⊥

abbrev pub IsWorkedOut : DataType → Node → List Node → Type 0
IsWorkedOut t node (child ∷ []) = (node.dtype ≡ t) × (node.rows ≡ child.rows)
IsWorkedOut t node below = ⊥

abbrev pub IsList : Bool → Node → List Node → Type 0
IsList false node (elements ∷ offsets ∷ []) = IsListOf node.dtype elements.dtype
IsList true node (elements ∷ offsets ∷ validity ∷ []) = IsListOf node.dtype elements.dtype
IsList has_validity node below = ⊥

abbrev pub IsRowNumbers : Node → List Node → Type 0
IsRowNumbers node below = (node.dtype ≡ row_number_type) × (below ≡ [])

abbrev pub HasZones : Node → List Node → Type 0
HasZones node (column ∷ zones ∷ []) = (node.dtype ≡ column.dtype) × (node.rows ≡ column.rows)
HasZones node below = ⊥

-- truth values that are never null, over one plan
abbrev pub AreTruthsOver : Node → List Node → Type 0
AreTruthsOver node (zones ∷ []) = node.dtype ≡ bool_type NonNullable
AreTruthsOver node below = ⊥

abbrev pub IsMadeAs : PlanKind → Node → List Node → Type 0
IsMadeAs kinds.Concat node below = (node.rows ≡ sum_by rows_of below) × (node.offsets ≡ offsets_from 0 below)
IsMadeAs (kinds.Eval a) node below = IsWorkedOut a.dtype node below
IsMadeAs kinds.Filter node below = IsLike node below
IsMadeAs (kinds.Pack has_validity) node below = IsStruct node.dtype
IsMadeAs kinds.Take node below = IsLookUp node below
IsMadeAs kinds.Share node below = IsLike node below
IsMadeAs (kinds.ListPack has_validity) node below = IsList has_validity node below
IsMadeAs kinds.RowIdx node below = IsRowNumbers node below
IsMadeAs (kinds.SegmentScan segment coding) node below = below ≡ []
IsMadeAs (kinds.Zoned zone_len stats) node below = HasZones node below
IsMadeAs (kinds.LegacyStats zone_len stats) node below = HasZones node below
IsMadeAs (kinds.Pruning zone_len stats proof) node below = AreTruthsOver node below

abbrev pub IsMade : Node → List Node → Type 0
IsMade node below = IsMadeAs node.kind node below

-- ---- the node of each constructor

-- whether a validity is given, and the validity as children
abbrev pub is_given : Option ℕ → Bool
is_given None = false
is_given (Some validity) = true

abbrev pub given_validity : Option ℕ → List ℕ
given_validity None = []
given_validity (Some validity) = validity ∷ []

abbrev pub concat_node : List Node → DataType → List ℕ → Node
concat_node nodes t children = record { kind = kinds.Concat; dtype = t; rows = sum_by rows_of (nodes_at nodes children); children = children; offsets = offsets_from 0 (nodes_at nodes children) }

abbrev pub eval_node : List Node → Bound → ℕ → Node
eval_node nodes a child = record { kind = kinds.Eval a; dtype = a.dtype; rows = (node_at nodes child).rows; children = child ∷ []; offsets = [] }

abbrev pub filter_node : List Node → ℕ → Node
filter_node nodes child = record { kind = kinds.Filter; dtype = (node_at nodes child).dtype; rows = (node_at nodes child).rows; children = child ∷ []; offsets = [] }

abbrev pub packed_node : DataType → ℕ → List ℕ → Option ℕ → Node
packed_node t rows fields validity = record { kind = kinds.Pack (is_given validity); dtype = t; rows = rows; children = fields ++ given_validity validity; offsets = [] }

abbrev pub pack_node : Members → Nullability → ℕ → List ℕ → Option ℕ → Node
pack_node ms n rows fields validity = packed_node (struct_type ms n) rows fields validity

abbrev pub take_node : List Node → ℕ → ℕ → Node
take_node nodes codes values = record { kind = kinds.Take; dtype = nullable_where (nullability_of (node_at nodes codes).dtype) (node_at nodes values).dtype; rows = (node_at nodes codes).rows; children = codes ∷ values ∷ []; offsets = [] }

abbrev pub share_node : List Node → ℕ → Node
share_node nodes child = record { kind = kinds.Share; dtype = (node_at nodes child).dtype; rows = (node_at nodes child).rows; children = child ∷ []; offsets = [] }

abbrev pub list_node : List Node → Nullability → ℕ → ℕ → ℕ → Option ℕ → Node
list_node nodes n rows elements offsets validity = record { kind = kinds.ListPack (is_given validity); dtype = list_type (node_at nodes elements).dtype n; rows = rows; children = elements ∷ offsets ∷ given_validity validity; offsets = [] }

abbrev pub row_idx_node : ℕ → Node
row_idx_node rows = record { kind = kinds.RowIdx; dtype = row_number_type; rows = rows; children = []; offsets = [] }

abbrev pub scan_node : DataType → ℕ → ℕ → Coding → Node
scan_node t rows segment coding = record { kind = kinds.SegmentScan segment coding; dtype = t; rows = rows; children = []; offsets = [] }

abbrev pub zoned_node : List Node → ℕ → ℕ → ℕ → List Statistic → Node
zoned_node nodes column zones zone_len stats = record { kind = kinds.Zoned zone_len stats; dtype = (node_at nodes column).dtype; rows = (node_at nodes column).rows; children = column ∷ zones ∷ []; offsets = [] }

abbrev pub legacy_node : List Node → ℕ → ℕ → ℕ → List Statistic → Node
legacy_node nodes column zones zone_len stats = record { kind = kinds.LegacyStats zone_len stats; dtype = (node_at nodes column).dtype; rows = (node_at nodes column).rows; children = column ∷ zones ∷ []; offsets = [] }

-- the plan of the zones, which is the second child of a plan over data
abbrev pub zones_of_node : Node → ℕ
zones_of_node node = slice_index_or node.children 1 0

-- over the zones of a plan, with its rows
abbrev pub pruning_node : List Node → ℕ → Bound → Node
pruning_node nodes zoned predicate = record { kind = kinds.Pruning (zone_len_of (node_at nodes zoned).kind) (stats_of (node_at nodes zoned).kind) predicate; dtype = bool_type NonNullable; rows = (node_at nodes zoned).rows; children = zones_of_node (node_at nodes zoned) ∷ []; offsets = [] }

-- a node of a kind that has the dtype and the rows of its only child
pub record IsLikeChild (kind : PlanKind) (nodes : List Node) (child : ℕ) (node : Node) : Type 0 where
  pub is : node ≡ record { kind = kind; dtype = (node_at nodes child).dtype; rows = (node_at nodes child).rows; children = child ∷ []; offsets = [] }
