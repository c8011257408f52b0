-- Which columns that are handed in are for the plans that they name.
use Rattle.std.specs.Prelude.{◌≡◌, ℕ, ◌<◌, ◌⊎◌, List, [], ◌∷◌, length}
use Rattle.vx_plan.specs.declared.shapes.Shape.TheVariants as shapes
use Rattle.vx_plan.specs.Nodes.{Node}
use Rattle.vx_plan.specs.Rules.{node_at}
use Rattle.vx_plan.specs.Shapes.{HasShape}
use Rattle.vx_steps.specs.KeptData.{Kept}

-- The plan is one of the table, and the column has its dtype and its rows.
pub record IsForPlan (nodes : List Node) (kept : Kept) : Type 0 where
  pub known : kept.node < length nodes
  pub dtype : kept.column.dtype ≡ (node_at nodes kept.node).dtype
  pub count : length kept.column.values ≡ (node_at nodes kept.node).rows

-- and the plan scans a segment
pub record IsForLeaf (nodes : List Node) (kept : Kept) : Type 0 where
  pub plan : IsForPlan nodes kept
  pub segment : ℕ
  pub leaf : HasShape nodes kept.node (shapes.Leaf segment)

-- those that are so, in their order
abbrev pub Keeps : {X : Type 0} → (X → Type 0) → List X → List X → Type 0
Keeps P [] kept = kept ≡ []
Keeps P (x ∷ xs) kept = (P x × ((rest : List _) × (kept ≡ x ∷ rest) × Keeps P xs rest)) ⊎ ((P x → ⊥) × Keeps P xs kept)
