-- What holds of lowered plans, of plans of expressions, and of plans of projections, whatever the leaves.
use Rattle.std.specs.Prelude.{◌≡◌, ℕ, ◌*◌, ◌≤◌, if◌then◌else◌, List, [], length, map, option_map, Some, IsSome, IsTrue, IsFalse}
use Rattle.vx_base.specs.declared.dtypes.Nullability.{Nullability}
use Rattle.vx_base.specs.Data.{DataType, struct_type, Members, Datum}
use Rattle.vx_base.specs.Names.{HasDistinctNames}
use Rattle.vx_expr.specs.Bound.{Bound}
use Rattle.vx_expr.specs.Meaning.{meaning}
use Rattle.vx_expr.specs.Mentions.{uses_root, is_root, root_fields}
use Rattle.vx_expr.specs.Terms.{Term}
use Rattle.vx_expr.specs.Types.{type_of}
use Rattle.vx_layout.specs.Kept.{KeptFields, only, kept_fields}
use Rattle.vx_layout.specs.Nodes.{Node}
use Rattle.vx_layout.specs.Rows.{value, reads}
use Rattle.vx_layout.specs.Shape.{IsGoodTree}
use Rattle.vx_layout.specs.Sound.{IsSound}
use Rattle.vx_layout.specs.Trees.{Tree, head_of, subtree}
use Rattle.vx_plan.specs.Alike.{IsAlike}
use Rattle.vx_plan.specs.Nodes.{Node as PlanNode}
use Rattle.vx_plan.specs.Plans.{Plan, plan_at, plan_head}
use Rattle.vx_plan.specs.PlanRows.{plan_value, plan_reads}
use Rattle.vx_rows.specs.Derivations.{Leaves}
use Rattle.vx_rows.specs.Reads.{directly}
use Rattle.vx_rows.specs.Renumbered.{read_renumbered}
use Rattle.vx_rows.specs.Whole.{GiveFitting}
use Rattle.vx_lower.specs.KeptRows.{kept_type, kept_value, MayKeep, KeepsFieldsOf}
use Rattle.vx_lower.specs.Lowered.{lowered}
use Rattle.vx_lower.specs.Numbered.{numbered}
use Rattle.vx_lower.specs.OldNumbers.{old_number}
use Rattle.vx_lower.specs.Planned.{planned, CanBePlanned}
use Rattle.vx_lower.specs.PlannedOver.{IsPlannedOver}
use Rattle.vx_lower.specs.Projected.{Projection, kept_of, projected_at, scan_reads}
use Rattle.vx_lower.specs.RowIndex.{row_index_plan, meaning_over}
use Rattle.vx_lower.specs.Sizes.{tree_size, plan_size}

-- ---- lowering

-- the lowered plan has the tree's dtype without the fields that aren't kept, and the tree's rows
abbrev pub LoweredHasType : Type 0
LoweredHasType = (t : Tree) (kept : KeptFields) → IsSound t → (plan_head (lowered t kept)).dtype ≡ kept_type kept (head_of t).dtype

abbrev pub LoweredHasRows : Type 0
LoweredHasRows = (t : Tree) (kept : KeptFields) → IsSound t → (plan_head (lowered t kept)).rows ≡ (head_of t).rows

-- it has at each row the tree's value without the fields that aren't kept
abbrev pub LoweredHasValues : Type 0
LoweredHasValues = (leaves : Leaves) → GiveFitting leaves → (offset : ℕ) (t : Tree) (kept : KeptFields) (row : ℕ)
    → IsSound t → HasDistinctNames (head_of t).dtype → MayKeep kept (head_of t).dtype
    → plan_value leaves offset (lowered t kept) row ≡ option_map (kept_value kept (head_of t).dtype) (value leaves t kept row)

-- and reads there what the tree reads, in its order
abbrev pub LoweredReadsSame : Type 0
LoweredReadsSame = (offset : ℕ) (t : Tree) (kept : KeptFields) (row : ℕ)
    → IsSound t → plan_reads offset (lowered t kept) row ≡ reads t directly kept row

-- an expression that gets only kept fields from its root is worth the same without the others
abbrev pub KeptFieldsMeanSame : Type 0
KeptFieldsMeanSame = (names : List (List ℕ)) (ms : Members) (n : Nullability) (bound : ℕ) (e : Term) (v : Datum) (row : ℕ)
    → KeepsFieldsOf (only names) (root_fields e)
    → meaning (struct_type ms n) bound e v row
    ≡ meaning (kept_type (only names) (struct_type ms n)) bound e (kept_value (only names) (struct_type ms n) v) row

-- and of the same dtype
abbrev pub KeptFieldsTypeSame : Type 0
KeptFieldsTypeSame = (t : DataType) (e : Term) → IsSome (type_of t e) → type_of (kept_type (kept_fields t e) t) e ≡ type_of t e

-- ---- sizes

-- lowering makes at most twice as many plans as a tree has nodes
abbrev pub LoweredIsSmall : Type 0
LoweredIsSmall = (t : Tree) (kept : KeptFields) → IsSound t → plan_size (lowered t kept) ≤ 2 * tree_size t

-- the tree of a good list of nodes has as many nodes as the list
abbrev pub GoodTreeHasEachNode : Type 0
GoodTreeHasEachNode = (nodes : List Node) → IsGoodTree nodes → tree_size (subtree nodes 0) ≡ length nodes

-- and is lowered to at most twice as many plans
abbrev pub GoodTreeIsSmall : Type 0
GoodTreeIsSmall = (nodes : List Node) (kept : KeptFields) → IsGoodTree nodes → plan_size (lowered (subtree nodes 0) kept) ≤ 2 * length nodes

-- ---- the row index

-- the plan of an expression has the expression's dtype, and the child's rows
abbrev pub RowIndexHasType : Type 0
RowIndexHasType = (a : Bound) (child : Plan) → (plan_head (row_index_plan a child)).dtype ≡ a.dtype

abbrev pub RowIndexHasRows : Type 0
RowIndexHasRows = (a : Bound) (child : Plan) → (plan_head (row_index_plan a child)).rows ≡ (plan_head child).rows

-- it has the expression's meaning at the child's row and its number
abbrev pub RowIndexKeepsMeaning : Type 0
RowIndexKeepsMeaning = (leaves : Leaves) (offset : ℕ) (a : Bound) (child : Plan) (row : ℕ)
    → plan_value leaves offset (row_index_plan a child) row ≡ meaning_over leaves offset a.term child row

-- and reads what the child reads, where it uses the root, and nothing else
abbrev pub RowIndexReadsChild : Type 0
RowIndexReadsChild = (offset : ℕ) (a : Bound) (child : Plan) (row : ℕ)
    → plan_reads offset (row_index_plan a child) row ≡ (if uses_root a.term then plan_reads offset child row else [])

-- ---- projections

-- the plan of a projection has the projection's dtype, and the tree's rows
abbrev pub PlannedHasType : Type 0
PlannedHasType = (p : Projection) → CanBePlanned p → type_of (head_of p.root).dtype p.expression.term ≡ Some p.expression.dtype
    → (plan_head (planned p)).dtype ≡ p.expression.dtype

abbrev pub PlannedHasRows : Type 0
PlannedHasRows = (p : Projection) → CanBePlanned p → (plan_head (planned p)).rows ≡ (head_of p.root).rows

-- a good tree under an expression that is bound to its dtype can be planned
abbrev pub GoodTreeCanBePlanned : Type 0
GoodTreeCanBePlanned = (nodes : List Node) (p : Projection) → IsGoodTree nodes → p.root ≡ subtree nodes 0
    → IsSome (type_of (head_of p.root).dtype p.expression.term) → CanBePlanned p

-- the plan has at each row what the projection is worth there, and reads what the projection reads
abbrev pub PlannedIsProjected : Type 0
PlannedIsProjected = (leaves : Leaves) → GiveFitting leaves → (p : Projection) (row : ℕ)
    → CanBePlanned p → plan_value leaves p.offset (planned p) row ≡ projected_at leaves p row

abbrev pub PlannedReadsSame : Type 0
PlannedReadsSame = (p : Projection) (row : ℕ) → CanBePlanned p → plan_reads p.offset (planned p) row ≡ scan_reads p row

-- ---- plans in a table

-- a plan that is numbered anew is alike to what it was
abbrev pub NumberedIsAlike : Type 0
NumberedIsAlike = (offset first : ℕ) (p : Plan) → IsAlike (old_number first p) (λ n. n) offset (numbered first p) p

-- it has its values and, by the old numbers, its reads
abbrev pub NumberedHasValues : Type 0
NumberedHasValues = (leaves : Leaves) (offset first : ℕ) (p : Plan) (row : ℕ)
    → plan_value leaves offset (numbered first p) row ≡ plan_value leaves offset p row

abbrev pub NumberedReadsSame : Type 0
NumberedReadsSame = (offset first : ℕ) (p : Plan) (row : ℕ)
    → map (read_renumbered (old_number first p)) (plan_reads offset (numbered first p) row) ≡ plan_reads offset p row

-- a plan that is alike to a lowered tree has the tree's values without the fields that aren't kept, and its reads
abbrev pub AlikeLoweredHasValues : Type 0
AlikeLoweredHasValues =
    (f g : ℕ → ℕ) (leaves : Leaves) → GiveFitting leaves → (offset : ℕ) (q : Plan) (t : Tree) (kept : KeptFields) (row : ℕ)
    → IsSound t → HasDistinctNames (head_of t).dtype → MayKeep kept (head_of t).dtype → IsAlike f g offset q (lowered t kept)
    → plan_value leaves offset q row ≡ option_map (kept_value kept (head_of t).dtype) (value leaves t kept row)

abbrev pub AlikeLoweredReadsSame : Type 0
AlikeLoweredReadsSame = (f g : ℕ → ℕ) (offset : ℕ) (q : Plan) (t : Tree) (kept : KeptFields) (row : ℕ)
    → IsSound t → IsAlike f g offset q (lowered t kept)
    → map (read_renumbered f) (plan_reads offset q row) ≡ map (read_renumbered g) (reads t directly kept row)

-- one that is alike to the plan of a projection is worth at each row what the projection is, and reads what it reads
abbrev pub AlikePlannedIsProjected : Type 0
AlikePlannedIsProjected = (f g : ℕ → ℕ) (leaves : Leaves) → GiveFitting leaves → (q : Plan) (p : Projection) (row : ℕ)
    → CanBePlanned p → IsAlike f g p.offset q (planned p) → plan_value leaves p.offset q row ≡ projected_at leaves p row

abbrev pub AlikePlannedReadsSame : Type 0
AlikePlannedReadsSame = (f g : ℕ → ℕ) (q : Plan) (p : Projection) (row : ℕ)
    → CanBePlanned p → IsAlike f g p.offset q (planned p)
    → map (read_renumbered f) (plan_reads p.offset q row) ≡ map (read_renumbered g) (scan_reads p row)

-- plans of one expression over alike plans are alike
abbrev pub RowIndexIsAlike : Type 0
RowIndexIsAlike = (f g : ℕ → ℕ) (offset : ℕ) (a : Bound) (p q : Plan)
    → IsAlike f g offset p q → IsAlike f g offset (row_index_plan a p) (row_index_plan a q)

-- A table that holds the lowered tree of a projection, and the plan of its expression over it, holds the projection's
-- plan but for numbers. The expression may be bound anew, to the dtype without the fields that aren't kept.
abbrev pub TableHoldsPlanned : Type 0
TableHoldsPlanned = (old new : List PlanNode) (a : Bound) (child number first : ℕ) (p : Projection)
    → IsFalse (is_root p.expression.term) → a.term ≡ p.expression.term → a.dtype ≡ p.expression.dtype
    → plan_at old child ≡ numbered first (lowered p.root (kept_of p)) → IsPlannedOver old new a child number
    → IsAlike (old_number first (lowered p.root (kept_of p))) (λ n. n) p.offset (plan_at new number) (planned p)

-- for the root alone it is the lowered tree
abbrev pub TableHoldsRoot : Type 0
TableHoldsRoot = (nodes : List PlanNode) (number first : ℕ) (p : Projection)
    → IsTrue (is_root p.expression.term) → plan_at nodes number ≡ numbered first (lowered p.root (kept_of p))
    → IsAlike (old_number first (lowered p.root (kept_of p))) (λ n. n) p.offset (plan_at nodes number) (planned p)
