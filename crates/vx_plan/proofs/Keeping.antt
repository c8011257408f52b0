-- Plans that keep the rules, kind by kind.
use Rattle.std.proofs.Common.{◌≡◌, ℕ, ◌<◌, ◌^◌, false, List, [], ◌∷◌, ◌++◌, length, Option}
use Rattle.std.specs.List.{All, sum_by}
use Rattle.vx_base.specs.declared.dtypes.Nullability.{Nullability}
use Rattle.vx_base.specs.Data.{DataType, Members, struct_type}
use Rattle.vx_base.specs.ColumnCalls.{IsUnsigned}
use Rattle.vx_expr.specs.declared.statistics.Statistic.{Statistic}
use Rattle.vx_expr.specs.Bound.{Bound, IsBoundTo}
use Rattle.vx_expr.specs.Mentions.{uses_row_number}
use Rattle.vx_plan.specs.declared.rules.PlanRule.TheVariants.{ChildTypes, ChildRows, BoundExpression, NoRowIndex, FieldCount, UnsignedCodes, LeafType, FittingZones}
use Rattle.vx_plan.specs.Nodes.{Node}
use Rattle.vx_plan.specs.Rules.{concat_node, eval_node, given_validity, is_given, legacy_node, list_node, node_at, nodes_at, pack_node, rows_of, take_node, zoned_node, AreZones, CountFits, KeepsRules, ListFits, ListRowsFit, PackCountFits, PackFits}

pub concat_keeps : (nodes : List Node) (t : DataType) (children : List ℕ) → All (λ child. child.dtype ≡ t) (nodes_at nodes children) → sum_by rows_of (nodes_at nodes children) < 2 ^ 64 → KeepsRules (concat_node nodes t children) (nodes_at nodes children)
concat_keeps nodes t children fit few ChildTypes = fit
concat_keeps nodes t children fit few ChildRows = few
concat_keeps nodes t children fit few BoundExpression = tt
concat_keeps nodes t children fit few NoRowIndex = tt
concat_keeps nodes t children fit few FieldCount = tt
concat_keeps nodes t children fit few UnsignedCodes = tt
concat_keeps nodes t children fit few LeafType = tt
concat_keeps nodes t children fit few FittingZones = tt

pub pack_keeps : (ms : Members) (n : Nullability) (rows : ℕ) (fields : List ℕ) (validity : Option ℕ) (below : List Node) → PackFits (is_given validity) (struct_type ms n) below → All (λ child. child.rows ≡ rows) below → PackCountFits (is_given validity) (struct_type ms n) (length (fields ++ given_validity validity)) → KeepsRules (pack_node ms n rows fields validity) below
pack_keeps ms n rows fields validity below fit same count ChildTypes = fit
pack_keeps ms n rows fields validity below fit same count ChildRows = same
pack_keeps ms n rows fields validity below fit same count BoundExpression = tt
pack_keeps ms n rows fields validity below fit same count NoRowIndex = tt
pack_keeps ms n rows fields validity below fit same count FieldCount = count
pack_keeps ms n rows fields validity below fit same count UnsignedCodes = tt
pack_keeps ms n rows fields validity below fit same count LeafType = tt
pack_keeps ms n rows fields validity below fit same count FittingZones = tt

pub take_keeps : (nodes : List Node) (codes values : ℕ) → IsUnsigned (node_at nodes codes).dtype → KeepsRules (take_node nodes codes values) (nodes_at nodes (codes ∷ values ∷ []))
take_keeps nodes codes values unsigned ChildTypes = tt
take_keeps nodes codes values unsigned ChildRows = tt
take_keeps nodes codes values unsigned BoundExpression = tt
take_keeps nodes codes values unsigned NoRowIndex = tt
take_keeps nodes codes values unsigned FieldCount = tt
take_keeps nodes codes values unsigned UnsignedCodes = unsigned
take_keeps nodes codes values unsigned LeafType = tt
take_keeps nodes codes values unsigned FittingZones = tt

pub list_keeps : (nodes : List Node) (n : Nullability) (rows elements offsets : ℕ) (validity : Option ℕ) (below : List Node) → ListFits (is_given validity) below → ListRowsFit (is_given validity) rows below → CountFits (list_node nodes n rows elements offsets validity).kind (list_node nodes n rows elements offsets validity).dtype (length (list_node nodes n rows elements offsets validity).children) → KeepsRules (list_node nodes n rows elements offsets validity) below
list_keeps nodes n rows elements offsets validity below fit same count ChildTypes = fit
list_keeps nodes n rows elements offsets validity below fit same count ChildRows = same
list_keeps nodes n rows elements offsets validity below fit same count BoundExpression = tt
list_keeps nodes n rows elements offsets validity below fit same count NoRowIndex = tt
list_keeps nodes n rows elements offsets validity below fit same count FieldCount = count
list_keeps nodes n rows elements offsets validity below fit same count UnsignedCodes = tt
list_keeps nodes n rows elements offsets validity below fit same count LeafType = tt
list_keeps nodes n rows elements offsets validity below fit same count FittingZones = tt

pub eval_keeps : (nodes : List Node) (a : Bound) (child : ℕ) → IsBoundTo a (node_at nodes child).dtype → uses_row_number a.term ≡ false → KeepsRules (eval_node nodes a child) (nodes_at nodes (child ∷ []))
eval_keeps nodes a child bound none ChildTypes = tt
eval_keeps nodes a child bound none ChildRows = tt
eval_keeps nodes a child bound none BoundExpression = bound
eval_keeps nodes a child bound none NoRowIndex = none
eval_keeps nodes a child bound none FieldCount = tt
eval_keeps nodes a child bound none UnsignedCodes = tt
eval_keeps nodes a child bound none LeafType = tt
eval_keeps nodes a child bound none FittingZones = tt

pub zoned_keeps : (nodes : List Node) (column zones zone_len : ℕ) (stats : List Statistic) → AreZones zone_len stats (node_at nodes column).dtype (node_at nodes column).rows (node_at nodes zones) → KeepsRules (zoned_node nodes column zones zone_len stats) (nodes_at nodes (column ∷ zones ∷ []))
zoned_keeps nodes column zones zone_len stats fit ChildTypes = tt
zoned_keeps nodes column zones zone_len stats fit ChildRows = tt
zoned_keeps nodes column zones zone_len stats fit BoundExpression = tt
zoned_keeps nodes column zones zone_len stats fit NoRowIndex = tt
zoned_keeps nodes column zones zone_len stats fit FieldCount = tt
zoned_keeps nodes column zones zone_len stats fit UnsignedCodes = tt
zoned_keeps nodes column zones zone_len stats fit LeafType = tt
zoned_keeps nodes column zones zone_len stats fit FittingZones = fit

pub legacy_keeps : (nodes : List Node) (column zones zone_len : ℕ) (stats : List Statistic) → AreZones zone_len stats (node_at nodes column).dtype (node_at nodes column).rows (node_at nodes zones) → KeepsRules (legacy_node nodes column zones zone_len stats) (nodes_at nodes (column ∷ zones ∷ []))
legacy_keeps nodes column zones zone_len stats fit ChildTypes = tt
legacy_keeps nodes column zones zone_len stats fit ChildRows = tt
legacy_keeps nodes column zones zone_len stats fit BoundExpression = tt
legacy_keeps nodes column zones zone_len stats fit NoRowIndex = tt
legacy_keeps nodes column zones zone_len stats fit FieldCount = tt
legacy_keeps nodes column zones zone_len stats fit UnsignedCodes = tt
legacy_keeps nodes column zones zone_len stats fit LeafType = tt
legacy_keeps nodes column zones zone_len stats fit FittingZones = fit
