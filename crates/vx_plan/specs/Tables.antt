-- Which tables of plans are good, and what a new plan says of the table.
use Rattle.std.specs.Prelude.{◌≡◌, ℕ, ◌<◌, List, [], ◌∷◌, ◌++◌, length, Some, IfSome, All}
use Rattle.std.specs.List.{slice_get}
use Rattle.vx_expr.specs.Bound.{Bound}
use Rattle.vx_zones.specs.Prunes.{HasProof}
use Rattle.vx_plan.specs.Kinds.{HasKind, IsOverData}
use Rattle.vx_plan.specs.Nodes.{Node}
use Rattle.vx_plan.specs.Rules.{node_at, nodes_at, IsMade, KeepsRules}

-- The children stand below the node, and it keeps the rules of its kind.
pub record IsGoodNode (nodes : List Node) (number : ℕ) (node : Node) : Type 0 where
  pub below : All (λ child. child < number) node.children
  pub made : IsMade node (nodes_at nodes node.children)
  pub kept : KeepsRules node (nodes_at nodes node.children)

abbrev pub IsGoodTable : List Node → Type 0
IsGoodTable nodes = (number : ℕ) → IfSome (slice_get nodes number) (IsGoodNode nodes number)

-- these are plans of the table
abbrev pub AreIn : List Node → List ℕ → Type 0
AreIn nodes numbers = All (λ number. number < length nodes) numbers

-- The plan is over data that stands in zones, and the predicate has a proof that can prune them.
pub record CanPrune (nodes : List Node) (n : ℕ) (predicate : Bound) : Type 0 where
  pub over : HasKind IsOverData nodes n
  pub proof : HasProof predicate

-- The node was appended to a good table and has this number; it keeps the rules.
pub record IsAdded (old new : List Node) (node : Node) (number : ℕ) : Type 0 where
  pub appended : new ≡ old ++ node ∷ []
  pub last : number ≡ length old
  pub kept : KeepsRules node (nodes_at old node.children)
  pub good : IsGoodTable new

-- the child of the plan at the place is that number, and lower than the plan's
pub record IsChildAt (nodes : List Node) (number place child : ℕ) : Type 0 where
  pub at : slice_get (node_at nodes number).children place ≡ Some child
  pub lower : child < number
