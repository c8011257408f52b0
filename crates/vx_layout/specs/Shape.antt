-- Which lists of nodes are a layout tree: each rule of the shape at one node, and all of them at all nodes.
-- Each rule stands by itself: where a child that it speaks of is no node, the rule is broken.
use Rattle.std.specs.Prelude.{◌≡◌, ℕ, zero, suc, ◌+◌, ◌<◌, ◌≤◌, sum_by, List, length, All, IfSome, IsSomeAnd}
use Rattle.std.specs.Int.{div_ceil}
use Rattle.std.specs.List.{slice_get}
use Rattle.std.specs.Option.{option_map_or}
use Rattle.vx_base.specs.declared.codings.Coding.{Coding}
use Rattle.vx_base.specs.declared.codings.Coding.TheVariants.{Plain, Constant, Runs}
use Rattle.vx_base.specs.declared.dtypes.Nullability.{Nullability}
use Rattle.vx_base.specs.declared.dtypes.Nullability.TheVariants.{NonNullable, Nullable}
use Rattle.vx_base.specs.Data.{DataType, bool_type, struct_type, list_type, Members}
use Rattle.vx_base.specs.ColumnCalls.{nullable_where, IsUnsigned}
use Rattle.vx_base.specs.Fits.{nullability_of}
use Rattle.vx_base.specs.Leaf.{IsLeaf}
use Rattle.vx_base.specs.Views.{fields_in}
use Rattle.vx_layout.specs.declared.nodes.LayoutKind.{LayoutKind}
use Rattle.vx_layout.specs.declared.nodes.LayoutKind.TheVariants as kinds
use Rattle.vx_layout.specs.declared.rules.ShapeRule.{ShapeRule}
use Rattle.vx_layout.specs.declared.rules.ShapeRule.TheVariants as rules
use Rattle.vx_expr.specs.declared.statistics.Statistic.{Statistic}
use Rattle.vx_layout.specs.Nodes.{Node}
use Rattle.vx_layout.specs.Children.{ChildAt, EachChild, times_child}
use Rattle.vx_layout.specs.Depths.{depth_of, dtype_depth}
use Rattle.vx_base.specs.Names.{HasDistinctNames}
use Rattle.vx_rows.specs.TypeForms.{IsOffsets}
use Rattle.vx_rows.specs.Zones.{zones_type, StandOver}

-- a list of nodes has fewer than this
abbrev pub node_limit : ℕ
node_limit = 1073741824

-- a node has at most so many rows
abbrev pub most_rows : ℕ
most_rows = 68719476736

-- and where it is flat and its segment isn't coded plainly, so many
abbrev pub most_coded_rows : ℕ
most_coded_rows = 16777216

-- the levels of a tree, and of a dtype
abbrev pub most_levels : ℕ
most_levels = 64

-- ---- numbers, depths and rows

-- a node behind the one of that number
abbrev pub IsLater : List Node → ℕ → ℕ → Type 0
IsLater nodes number child = (number < child) × (child < length nodes)

-- The children have greater numbers than the node, and are nodes themselves.
abbrev pub HasLaterChildren : List Node → ℕ → Node → Type 0
HasLaterChildren nodes number node = All (IsLater nodes number) node.children

-- Each node but the root is a child exactly once.
abbrev pub IsChildOnce : List Node → ℕ → Type 0
IsChildOnce nodes zero = Unit {0}
IsChildOnce nodes (suc n) = times_child nodes (suc n) ≡ 1

-- Neither the node nor its dtype is deeper than 64 levels.
abbrev pub IsShallow : List Node → ℕ → Node → Type 0
IsShallow nodes number node = (depth_of nodes number ≤ most_levels) × (dtype_depth node.dtype ≤ most_levels)

abbrev pub HasFewRows : Node → Type 0
HasFewRows node = node.rows ≤ most_rows

-- ---- how many children

-- the validity is a child where the dtype is nullable
abbrev pub validity_count : Nullability → ℕ
validity_count NonNullable = 0
validity_count Nullable = 1

-- So many children fit the kind and the dtype: a struct's are its fields and the validity, a list's the
-- elements, the offsets and the validity. The dtype of a struct node is a struct, and of a list node a list.
abbrev pub CountFits : LayoutKind → DataType → ℕ → Type 0
CountFits (kinds.Flat segment coding) t count = count ≡ 0
CountFits kinds.Chunked t count = Unit {0}
CountFits kinds.Struct (struct_type ms n) count = count ≡ length (fields_in ms) + validity_count n
CountFits kinds.Struct t count = ⊥
CountFits kinds.Dict t count = count ≡ 2
CountFits kinds.List (list_type t n) count = count ≡ 2 + validity_count n
CountFits kinds.List t count = ⊥
CountFits (kinds.Zoned zone_len stats) t count = count ≡ 2
CountFits (kinds.LegacyStats zone_len stats) t count = count ≡ 2

abbrev pub HasFittingCount : Node → Type 0
HasFittingCount node = CountFits node.kind node.dtype (length node.children)

-- ---- dtypes

-- The child at the place is a validity, where there is one.
abbrev pub ValidityAt : List Node → Node → ℕ → Nullability → Type 0
ValidityAt nodes node place NonNullable = Unit {0}
ValidityAt nodes node place Nullable = ChildAt nodes node place (λ child. child.dtype ≡ bool_type NonNullable)

-- Each field has a child of its dtype, in order, the first of them at the place.
abbrev pub FieldsFrom : List Node → Node → ℕ → Members → Type 0
FieldsFrom nodes node first ms =
    (place : ℕ) → IfSome (slice_get (fields_in ms) place)
    (λ field. ChildAt nodes node (first + place) (λ child. child.dtype ≡ field.dtype))

-- The dtype is that of the values, made nullable where the codes are.
abbrev pub IsLookedUp : List Node → Node → DataType → Type 0
IsLookedUp nodes node t =
    ChildAt nodes node 0 (λ values. ChildAt nodes node 1 (λ codes. t ≡ nullable_where (nullability_of codes.dtype) values.dtype))

-- The dtypes of the children fit the kind and the dtype. Of a struct node whose dtype is no struct, and of
-- a list node whose dtype is no list, the rule on the count of children speaks.
abbrev pub TypesFit : List Node → Node → LayoutKind → DataType → Type 0
TypesFit nodes node (kinds.Flat segment coding) t = IsLeaf t
TypesFit nodes node kinds.Chunked t = EachChild nodes node.children (λ child. child.dtype ≡ t)
TypesFit nodes node kinds.Struct (struct_type ms n) = ValidityAt nodes node 0 n × FieldsFrom nodes node (validity_count n) ms
TypesFit nodes node kinds.Struct t = Unit {0}
TypesFit nodes node kinds.Dict t = IsLookedUp nodes node t
TypesFit nodes node kinds.List (list_type t n) =
    ChildAt nodes node 0 (λ elements. elements.dtype ≡ t) × ChildAt nodes node 1 (λ offsets. IsOffsets offsets.dtype)
    × ValidityAt nodes node 2 n
TypesFit nodes node kinds.List t = Unit {0}
TypesFit nodes node (kinds.Zoned zone_len stats) t = ChildAt nodes node 0 (λ data_. data_.dtype ≡ t)
TypesFit nodes node (kinds.LegacyStats zone_len stats) t = ChildAt nodes node 0 (λ data_. data_.dtype ≡ t)

-- The codes of a dictionary have an unsigned Int dtype.
abbrev pub CodesFit : List Node → Node → LayoutKind → Type 0
CodesFit nodes node kinds.Dict = ChildAt nodes node 1 (λ codes. IsUnsigned codes.dtype)
CodesFit nodes node kind = Unit {0}

-- ---- row counts

-- the rows of the node of that number, 0 where there is none
abbrev pub rows_of : List Node → ℕ → ℕ
rows_of nodes number = option_map_or (λ node. node.rows) (slice_get nodes number) 0

-- There is a child at the place, with so many rows.
abbrev pub RowsAt : List Node → Node → ℕ → ℕ → Type 0
RowsAt nodes node place rows = ChildAt nodes node place (λ child. child.rows ≡ rows)

-- The validity at the place has the rows of the node, where there is one.
abbrev pub ValidityRowsAt : List Node → Node → ℕ → Nullability → Type 0
ValidityRowsAt nodes node place NonNullable = Unit {0}
ValidityRowsAt nodes node place Nullable = RowsAt nodes node place node.rows

-- Chunks add up to their parent's rows; fields, validities, codes and zoned data have them; list offsets
-- have one more.
abbrev pub RowsFit : List Node → Node → LayoutKind → Type 0
RowsFit nodes node (kinds.Flat segment coding) = Unit {0}
RowsFit nodes node kinds.Chunked = sum_by (rows_of nodes) node.children ≡ node.rows
RowsFit nodes node kinds.Struct = EachChild nodes node.children (λ child. child.rows ≡ node.rows)
RowsFit nodes node kinds.Dict = RowsAt nodes node 1 node.rows
RowsFit nodes node kinds.List = RowsAt nodes node 1 (node.rows + 1) × ValidityRowsAt nodes node 2 (nullability_of node.dtype)
RowsFit nodes node (kinds.Zoned zone_len stats) = RowsAt nodes node 0 node.rows
RowsFit nodes node (kinds.LegacyStats zone_len stats) = RowsAt nodes node 0 node.rows

-- ---- zones

-- so many zones of a length, where the length isn't 0
abbrev pub ZonesCount : ℕ → ℕ → ℕ → Type 0
ZonesCount zero rows count = Unit {0}
ZonesCount (suc n) rows count = count ≡ div_ceil rows (suc n)

-- The zones have a field for each statistic, and a row for each zone.
abbrev pub AreZones : List Node → Node → ℕ → List Statistic → Type 0
AreZones nodes node zone_len stats =
    StandOver node.dtype stats
    × ChildAt nodes node 1 (λ zones. (zones.dtype ≡ zones_type node.dtype stats) × ZonesCount zone_len node.rows zones.rows)

abbrev pub ZonesFit : List Node → Node → LayoutKind → Type 0
ZonesFit nodes node (kinds.Zoned zone_len stats) = AreZones nodes node zone_len stats
ZonesFit nodes node (kinds.LegacyStats zone_len stats) = AreZones nodes node zone_len stats
ZonesFit nodes node kind = Unit {0}

-- ---- codings

-- Rows that aren't coded plainly are few: a few bytes may spell any number of rows.
abbrev pub AreFewIn : Coding → ℕ → Type 0
AreFewIn Plain rows = Unit {0}
AreFewIn Constant rows = rows ≤ most_coded_rows
AreFewIn Runs rows = rows ≤ most_coded_rows

-- and so are those of a flat node
abbrev pub HasFewCodedRows : LayoutKind → ℕ → Type 0
HasFewCodedRows (kinds.Flat segment coding) rows = AreFewIn coding rows
HasFewCodedRows kind rows = Unit {0}

-- ---- the rules

-- the number of a rule, in the order in which they are tried
abbrev pub number_of : ShapeRule → ℕ
number_of rules.Nonempty = 1
number_of rules.LaterChildren = 2
number_of rules.ChildOnce = 3
number_of rules.Shallow = 4
number_of rules.FewRows = 5
number_of rules.ChildCount = 6
number_of rules.DistinctNames = 7
number_of rules.FittingTypes = 8
number_of rules.UnsignedCodes = 9
number_of rules.RowCounts = 10
number_of rules.FittingZones = 11
number_of rules.FewCodedRows = 12

-- what a rule asks of a node of that number
abbrev pub Asks : ShapeRule → List Node → ℕ → Node → Type 0
Asks rules.Nonempty nodes number node = Unit {0}
Asks rules.LaterChildren nodes number node = HasLaterChildren nodes number node
Asks rules.ChildOnce nodes number node = IsChildOnce nodes number
Asks rules.Shallow nodes number node = IsShallow nodes number node
Asks rules.FewRows nodes number node = HasFewRows node
Asks rules.ChildCount nodes number node = HasFittingCount node
Asks rules.DistinctNames nodes number node = HasDistinctNames node.dtype
Asks rules.FittingTypes nodes number node = TypesFit nodes node node.kind node.dtype
Asks rules.UnsignedCodes nodes number node = CodesFit nodes node node.kind
Asks rules.RowCounts nodes number node = RowsFit nodes node node.kind
Asks rules.FittingZones nodes number node = ZonesFit nodes node node.kind
Asks rules.FewCodedRows nodes number node = HasFewCodedRows node.kind node.rows

-- There is a node of that number, and it has what the rule asks. (The first rule asks no more.)
abbrev pub Keeps : ShapeRule → List Node → ℕ → Type 0
Keeps rule nodes number = IsSomeAnd (slice_get nodes number) (Asks rule nodes number)

-- A good tree: there is a node, and each node keeps each rule.
pub record IsGoodTree (nodes : List Node) : Type 0 where
  pub nonempty : 0 < length nodes
  pub kept : (rule : ShapeRule) (n : ℕ) → n < length nodes → Keeps rule nodes n
