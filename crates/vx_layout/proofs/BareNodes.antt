-- What the rules of the shape ask of nodes, they ask of them without the segments and codings of the flat ones: all but
-- the rule on codings.
use Rattle.std.proofs.Common.{◌≡◌, ℕ, zero, suc, ◌+◌, ◌<◌, ◌≤◌, List, [], ◌∷◌, ◌++◌, Option, Some, None, cond, map, length, take, eqb, refl, sym, ap, ◌∙◌, subst}
use Rattle.std.specs.Prelude.{IfSome, IsSomeAnd, option_and_then}
use Rattle.std.specs.List.{All, count_by, flat_map, list_any, slice_get, sum_by}
use Rattle.std.specs.Option.{option_map_or}
use Rattle.std.proofs.lemmas.List.{length-map, take-map}
use Rattle.std.proofs.Math.Path.{transport, transport⁻¹}
use Rattle.vx_base.specs.declared.codings.Coding.TheVariants.{Plain}
use Rattle.vx_base.specs.declared.dtypes.Nullability.{Nullability}
use Rattle.vx_base.specs.declared.dtypes.Nullability.TheVariants.{NonNullable, Nullable}
use Rattle.vx_base.specs.Data.{DataType, bool_type, int_type, utf8_type, struct_type, list_type, Members}
use Rattle.vx_base.specs.ColumnCalls.{nullable_where, IsUnsigned}
use Rattle.vx_base.specs.Fits.{nullability_of}
use Rattle.vx_base.specs.Views.{fields_in}
use Rattle.vx_expr.specs.declared.statistics.Statistic.{Statistic}
use Rattle.vx_rows.specs.TypeForms.{IsOffsets}
use Rattle.vx_rows.specs.Zones.{zones_type, StandOver}
use Rattle.vx_layout.specs.declared.nodes.LayoutKind.{LayoutKind}
use Rattle.vx_layout.specs.declared.nodes.LayoutKind.TheVariants as kinds
use Rattle.vx_layout.specs.declared.rules.ShapeRule.{ShapeRule}
use Rattle.vx_layout.specs.declared.rules.ShapeRule.TheVariants as rules
use Rattle.vx_layout.specs.Nodes.{Node}
use Rattle.vx_layout.specs.Children.{times_child}
use Rattle.vx_layout.specs.Depths.{depth_within, dtype_depth, parent_from, parent_of}
use Rattle.vx_layout.specs.Shape.{most_levels, rows_of, validity_count, AreZones, Asks, CodesFit, CountFits, FieldsFrom, HasLaterChildren, IsChildOnce, IsLookedUp, IsShallow, Keeps, RowsFit, TypesFit, ValidityAt, ValidityRowsAt, ZonesCount, ZonesFit}

abbrev pub bare_kind : LayoutKind → LayoutKind
bare_kind (kinds.Flat segment coding) = kinds.Flat 0 Plain
bare_kind kind = kind

-- a node without its segment and its coding, if it is flat
abbrev pub bare_node : Node → Node
bare_node node = record { kind = bare_kind node.kind; dtype = node.dtype; rows = node.rows; children = node.children }

abbrev pub bare_nodes : List Node → List Node
bare_nodes nodes = map bare_node nodes

-- ---- what is said of the node of a number, and of a child

at_bare : (nodes : List Node) (n : ℕ) (P : Node → Type 0) → IsSomeAnd (slice_get (bare_nodes nodes) n) P ≡ IsSomeAnd (slice_get nodes n) (λ node. P (bare_node node))
at_bare [] n P = refl
at_bare (node ∷ nodes) zero P = refl
at_bare (node ∷ nodes) (suc n) P = at_bare nodes n P

abbrev At : List Node → Option ℕ → (Node → Type 0) → Type 0
At nodes o P = IsSomeAnd (option_and_then (slice_get nodes) o) P

child_bare : (nodes : List Node) (o : Option ℕ) (P : Node → Type 0) → At (bare_nodes nodes) o P ≡ At nodes o (λ node. P (bare_node node))
child_bare nodes None P = refl
child_bare nodes (Some n) P = at_bare nodes n P

-- ---- numbers

children_bare : (nodes : List Node) → flat_map (λ node. node.children) (bare_nodes nodes) ≡ flat_map (λ node. node.children) nodes
children_bare [] = refl
children_bare (node ∷ nodes) = λ i. node.children ++ children_bare nodes i

times_bare : (nodes : List Node) (n : ℕ) → times_child (bare_nodes nodes) n ≡ times_child nodes n
times_bare nodes n = ap (λ (ns : List ℕ). count_by (λ child. eqb child n) ns) (children_bare nodes)

rows_bare : (nodes : List Node) (n : ℕ) → rows_of (bare_nodes nodes) n ≡ rows_of nodes n
rows_bare [] n = refl
rows_bare (node ∷ nodes) zero = refl
rows_bare (node ∷ nodes) (suc n) = rows_bare nodes n

parent_from_bare : (at : ℕ) (nodes : List Node) (child : ℕ) → parent_from at (bare_nodes nodes) child ≡ parent_from at nodes child
parent_from_bare at [] child = refl
parent_from_bare at (node ∷ nodes) child = ap (λ (o : Option ℕ). cond (list_any (λ number. eqb number child) node.children) (Some at) o) (parent_from_bare (at + 1) nodes child)

parent_bare : (nodes : List Node) (child : ℕ) → parent_of (bare_nodes nodes) child ≡ parent_of nodes child
parent_bare nodes child = ap (λ (ns : List Node). parent_from 0 ns child) (take-map bare_node child nodes) ∙ parent_from_bare 0 (take child nodes) child

depth_bare : (steps : ℕ) (nodes : List Node) (n : ℕ) → depth_within steps (bare_nodes nodes) n ≡ depth_within steps nodes n
unfolding depth_within
depth_bare zero nodes n = refl
depth_bare (suc steps) nodes n = λ i. option_map_or (λ parent. depth_bare steps nodes parent i + 1) (parent_bare nodes n i) 1

-- ---- each rule

later_bare : (nodes : List Node) (n : ℕ) (node : Node) → HasLaterChildren (bare_nodes nodes) n (bare_node node) ≡ HasLaterChildren nodes n node
later_bare nodes n node = λ i. All (λ child. (n < child) × (child < length-map nodes bare_node i)) node.children

once_bare : (nodes : List Node) (n : ℕ) → IsChildOnce (bare_nodes nodes) n ≡ IsChildOnce nodes n
once_bare nodes zero = refl
once_bare nodes (suc n) = λ i. times_bare nodes (suc n) i ≡ 1

shallow_bare : (nodes : List Node) (n : ℕ) (node : Node) → IsShallow (bare_nodes nodes) n (bare_node node) ≡ IsShallow nodes n node
shallow_bare nodes n node = λ i. (depth_bare n nodes n i ≤ most_levels) × (dtype_depth node.dtype ≤ most_levels)

count_bare : (kind : LayoutKind) (t : DataType) (count : ℕ) → CountFits (bare_kind kind) t count ≡ CountFits kind t count
count_bare (kinds.Flat segment coding) t count = refl
count_bare kinds.Chunked t count = refl
count_bare kinds.Struct t count = refl
count_bare kinds.Dict t count = refl
count_bare kinds.List t count = refl
count_bare (kinds.Zoned zone_len stats) t count = refl
count_bare (kinds.LegacyStats zone_len stats) t count = refl

validity_bare : (nodes : List Node) (node : Node) (place : ℕ) (n : Nullability) → ValidityAt (bare_nodes nodes) (bare_node node) place n ≡ ValidityAt nodes node place n
validity_bare nodes node place NonNullable = refl
validity_bare nodes node place Nullable = child_bare nodes (slice_get node.children place) (λ child. child.dtype ≡ bool_type NonNullable)

fields_bare : (nodes : List Node) (node : Node) (first : ℕ) (ms : Members) → FieldsFrom (bare_nodes nodes) (bare_node node) first ms ≡ FieldsFrom nodes node first ms
fields_bare nodes node first ms =
    λ i. (place : ℕ) → IfSome (slice_get (fields_in ms) place) (λ field. child_bare nodes (slice_get node.children (first + place)) (λ child. child.dtype ≡ field.dtype) i)

looked_up_bare : (nodes : List Node) (node : Node) (t : DataType) → IsLookedUp (bare_nodes nodes) (bare_node node) t ≡ IsLookedUp nodes node t
looked_up_bare nodes node t =
    let codes_of : Node → Node → Type 0 = λ (values codes : Node). t ≡ nullable_where (nullability_of codes.dtype) values.dtype in
    child_bare nodes (slice_get node.children 0) (λ values. At (bare_nodes nodes) (slice_get node.children 1) (codes_of values))
    ∙ (λ i. At nodes (slice_get node.children 0) (λ values. child_bare nodes (slice_get node.children 1) (codes_of values) i))

list_bare : (nodes : List Node) (node : Node) (t : DataType) (n : Nullability) → TypesFit (bare_nodes nodes) (bare_node node) kinds.List (list_type t n) ≡ TypesFit nodes node kinds.List (list_type t n)
list_bare nodes node t n =
    let elements = child_bare nodes (slice_get node.children 0) (λ child. child.dtype ≡ t) in
    let offsets = child_bare nodes (slice_get node.children 1) (λ child. IsOffsets child.dtype) in
    let validity = validity_bare nodes node 2 n in
    λ i. elements i × offsets i × validity i

struct_bare : (nodes : List Node) (node : Node) (ms : Members) (n : Nullability) → TypesFit (bare_nodes nodes) (bare_node node) kinds.Struct (struct_type ms n) ≡ TypesFit nodes node kinds.Struct (struct_type ms n)
struct_bare nodes node ms n =
    let validity = validity_bare nodes node 0 n in
    let fields = fields_bare nodes node (validity_count n) ms in
    λ i. validity i × fields i

types_bare : (nodes : List Node) (node : Node) (kind : LayoutKind) (t : DataType) → TypesFit (bare_nodes nodes) (bare_node node) (bare_kind kind) t ≡ TypesFit nodes node kind t
types_bare nodes node (kinds.Flat segment coding) t = refl
types_bare nodes node kinds.Chunked t = λ i. All (λ child. at_bare nodes child (λ c. c.dtype ≡ t) i) node.children
types_bare nodes node kinds.Struct (struct_type ms n) = struct_bare nodes node ms n
types_bare nodes node kinds.Struct (bool_type n) = refl
types_bare nodes node kinds.Struct (int_type kind n) = refl
types_bare nodes node kinds.Struct (utf8_type n) = refl
types_bare nodes node kinds.Struct (list_type t n) = refl
types_bare nodes node kinds.Dict t = looked_up_bare nodes node t
types_bare nodes node kinds.List (list_type t n) = list_bare nodes node t n
types_bare nodes node kinds.List (bool_type n) = refl
types_bare nodes node kinds.List (int_type kind n) = refl
types_bare nodes node kinds.List (utf8_type n) = refl
types_bare nodes node kinds.List (struct_type ms n) = refl
types_bare nodes node (kinds.Zoned zone_len stats) t = child_bare nodes (slice_get node.children 0) (λ child. child.dtype ≡ t)
types_bare nodes node (kinds.LegacyStats zone_len stats) t = child_bare nodes (slice_get node.children 0) (λ child. child.dtype ≡ t)

codes_bare : (nodes : List Node) (node : Node) (kind : LayoutKind) → CodesFit (bare_nodes nodes) (bare_node node) (bare_kind kind) ≡ CodesFit nodes node kind
codes_bare nodes node (kinds.Flat segment coding) = refl
codes_bare nodes node kinds.Chunked = refl
codes_bare nodes node kinds.Struct = refl
codes_bare nodes node kinds.Dict = child_bare nodes (slice_get node.children 1) (λ codes. IsUnsigned codes.dtype)
codes_bare nodes node kinds.List = refl
codes_bare nodes node (kinds.Zoned zone_len stats) = refl
codes_bare nodes node (kinds.LegacyStats zone_len stats) = refl

rows_at_bare : (nodes : List Node) (node : Node) (place rows : ℕ) → At (bare_nodes nodes) (slice_get node.children place) (λ child. child.rows ≡ rows) ≡ At nodes (slice_get node.children place) (λ child. child.rows ≡ rows)
rows_at_bare nodes node place rows = child_bare nodes (slice_get node.children place) (λ child. child.rows ≡ rows)

validity_rows_bare : (nodes : List Node) (node : Node) (place : ℕ) (n : Nullability) → ValidityRowsAt (bare_nodes nodes) (bare_node node) place n ≡ ValidityRowsAt nodes node place n
validity_rows_bare nodes node place NonNullable = refl
validity_rows_bare nodes node place Nullable = rows_at_bare nodes node place node.rows

rows_fit_bare : (nodes : List Node) (node : Node) (kind : LayoutKind) → RowsFit (bare_nodes nodes) (bare_node node) (bare_kind kind) ≡ RowsFit nodes node kind
rows_fit_bare nodes node (kinds.Flat segment coding) = refl
rows_fit_bare nodes node kinds.Chunked = λ i. sum_by (λ child. rows_bare nodes child i) node.children ≡ node.rows
rows_fit_bare nodes node kinds.Struct = λ i. All (λ child. at_bare nodes child (λ c. c.rows ≡ node.rows) i) node.children
rows_fit_bare nodes node kinds.Dict = rows_at_bare nodes node 1 node.rows
rows_fit_bare nodes node kinds.List =
    let offsets = rows_at_bare nodes node 1 (node.rows + 1) in
    let validity = validity_rows_bare nodes node 2 (nullability_of node.dtype) in
    λ i. offsets i × validity i
rows_fit_bare nodes node (kinds.Zoned zone_len stats) = rows_at_bare nodes node 0 node.rows
rows_fit_bare nodes node (kinds.LegacyStats zone_len stats) = rows_at_bare nodes node 0 node.rows

zones_bare : (nodes : List Node) (node : Node) (zone_len : ℕ) (stats : List Statistic) → AreZones (bare_nodes nodes) (bare_node node) zone_len stats ≡ AreZones nodes node zone_len stats
zones_bare nodes node zone_len stats =
    let table = child_bare nodes (slice_get node.children 1) (λ zones. (zones.dtype ≡ zones_type node.dtype stats) × ZonesCount zone_len node.rows zones.rows) in
    λ i. StandOver node.dtype stats × table i

zones_fit_bare : (nodes : List Node) (node : Node) (kind : LayoutKind) → ZonesFit (bare_nodes nodes) (bare_node node) (bare_kind kind) ≡ ZonesFit nodes node kind
zones_fit_bare nodes node (kinds.Flat segment coding) = refl
zones_fit_bare nodes node kinds.Chunked = refl
zones_fit_bare nodes node kinds.Struct = refl
zones_fit_bare nodes node kinds.Dict = refl
zones_fit_bare nodes node kinds.List = refl
zones_fit_bare nodes node (kinds.Zoned zone_len stats) = zones_bare nodes node zone_len stats
zones_fit_bare nodes node (kinds.LegacyStats zone_len stats) = zones_bare nodes node zone_len stats

-- ---- nodes that are the same without segments and codings

-- a rule asks the same of a node without them
abbrev AsksBare : ShapeRule → Type 1
AsksBare rule = (nodes : List Node) (n : ℕ) (node : Node) → Asks rule (bare_nodes nodes) n (bare_node node) ≡ Asks rule nodes n node

keeps_bare : (rule : ShapeRule) → AsksBare rule → (nodes : List Node) (n : ℕ) → Keeps rule (bare_nodes nodes) n ≡ Keeps rule nodes n
keeps_bare rule asks nodes n = at_bare nodes n (Asks rule (bare_nodes nodes) n) ∙ (λ i. IsSomeAnd (slice_get nodes n) (λ node. asks nodes n node i))

carried : (rule : ShapeRule) → AsksBare rule → (news nodes : List Node) (n : ℕ) → bare_nodes news ≡ bare_nodes nodes → Keeps rule nodes n → Keeps rule news n
carried rule asks news nodes n same kept =
    transport (keeps_bare rule asks news n) (subst (λ (ns : List Node). Keeps rule ns n) (sym same) (transport⁻¹ (keeps_bare rule asks nodes n) kept))

-- each rule but the one on codings is kept by both
pub keeps_alike : (rule : ShapeRule) (news nodes : List Node) (n : ℕ) → bare_nodes news ≡ bare_nodes nodes → Keeps rules.FewCodedRows news n → Keeps rule nodes n → Keeps rule news n
keeps_alike rules.Nonempty news nodes n same few kept = carried rules.Nonempty (λ ns m node. refl) news nodes n same kept
keeps_alike rules.LaterChildren news nodes n same few kept = carried rules.LaterChildren later_bare news nodes n same kept
keeps_alike rules.ChildOnce news nodes n same few kept = carried rules.ChildOnce (λ ns m node. once_bare ns m) news nodes n same kept
keeps_alike rules.Shallow news nodes n same few kept = carried rules.Shallow shallow_bare news nodes n same kept
keeps_alike rules.FewRows news nodes n same few kept = carried rules.FewRows (λ ns m node. refl) news nodes n same kept
keeps_alike rules.ChildCount news nodes n same few kept = carried rules.ChildCount (λ ns m node. count_bare node.kind node.dtype (length node.children)) news nodes n same kept
keeps_alike rules.DistinctNames news nodes n same few kept = carried rules.DistinctNames (λ ns m node. refl) news nodes n same kept
keeps_alike rules.FittingTypes news nodes n same few kept = carried rules.FittingTypes (λ ns m node. types_bare ns node node.kind node.dtype) news nodes n same kept
keeps_alike rules.UnsignedCodes news nodes n same few kept = carried rules.UnsignedCodes (λ ns m node. codes_bare ns node node.kind) news nodes n same kept
keeps_alike rules.RowCounts news nodes n same few kept = carried rules.RowCounts (λ ns m node. rows_fit_bare ns node node.kind) news nodes n same kept
keeps_alike rules.FittingZones news nodes n same few kept = carried rules.FittingZones (λ ns m node. zones_fit_bare ns node node.kind) news nodes n same kept
keeps_alike rules.FewCodedRows news nodes n same few kept = few
