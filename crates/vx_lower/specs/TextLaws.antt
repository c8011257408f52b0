-- What holds of the texts of plans, and a plan that was written by hand to check them on.
use Rattle.std.specs.Prelude.{codes, ◌≡◌, ℕ, ◌+◌, ◌<◌, List, [], ◌∷◌, ◌++◌, length}
use Rattle.vx_base.specs.declared.codings.Coding.TheVariants.{Plain}
use Rattle.vx_base.specs.declared.dtypes.IntKind.TheVariants.{I64}
use Rattle.vx_base.specs.declared.dtypes.Nullability.TheVariants.{NonNullable, Nullable}
use Rattle.vx_base.specs.Data.{bool_type, int_type}
use Rattle.vx_expr.specs.Bound.{Bound}
use Rattle.vx_expr.specs.Terms.{root, null_test}
use Rattle.vx_plan.specs.ChildNames.{child_name}
use Rattle.vx_plan.specs.Nodes.{Node}
use Rattle.vx_plan.specs.Rules.{eval_node, filter_node, node_at, scan_node}
use Rattle.vx_plan.specs.Tables.{IsGoodTable}
use Rattle.vx_lower.specs.PlanText.{each_from, line_text, lines_text, Header}

-- The lines of a plan are its own and then, one level deeper, those of its children in their order, each under its
-- name.
abbrev pub LinesUnfold : Type 0
LinesUnfold = (header : Header) (nodes : List Node) → IsGoodTable nodes → (n : ℕ) → n < length nodes
    → (depth : ℕ) (name : List ℕ)
    → lines_text header nodes depth name n
    ≡ line_text header nodes depth name n
    ++ each_from (λ place child. lines_text header nodes (depth + 1) (child_name (node_at nodes n) place) child) 0
    (node_at nodes n).children

-- ---- by hand

-- a segment of three numbers that may be null
abbrev pub one_scan : List Node
one_scan = scan_node (int_type I64 Nullable) 3 0 Plain ∷ []

-- whether the root is null
abbrev pub is_null_root : Bound
is_null_root = record { term = null_test root; root = int_type I64 Nullable; dtype = bool_type NonNullable }

-- the test of each of them
abbrev pub tested : List Node
tested = scan_node (int_type I64 Nullable) 3 0 Plain ∷ filter_node one_scan 0 ∷ eval_node (one_scan ++ filter_node one_scan 0 ∷ []) is_null_root 1 ∷ []

-- a boxed extractor's bytes
abbrev pub says_x : Header
says_x nodes number = codes " x"
