-- What columns are computed from, as plain data, and what is asked of it.
use Rattle.std.specs.Prelude.{◌≡◌, ℕ, ◌+◌, ◌<◌, ◌^◌, List, length, Option, Some, None, IfSome, option_map}
use Rattle.vx_base.specs.Columns.{ColumnData}
use Rattle.vx_rows.specs.Derivations.{Leaves}
use Rattle.vx_plan.specs.declared.shapes.Shape.TheVariants as shapes
use Rattle.vx_plan.specs.Kinds.{coding_of, HasKind, IsRowIdx}
use Rattle.vx_plan.specs.Nodes.{Node}
use Rattle.vx_plan.specs.Plans.{plan_at}
use Rattle.vx_plan.specs.Rules.{node_at}
use Rattle.vx_plan.specs.Shapes.{HasShape}
use Rattle.vx_steps.specs.declared.computing.Sources.{Sources}
use Rattle.vx_steps.specs.Given.{Handed, handed_by, whole_value}
use Rattle.vx_steps.specs.KeptData.{Kept}
use Rattle.vx_steps.specs.Kept.{kept_at}

-- the plans, the columns of leaves, the whole values that were handed in, which are none while whole values are made,
-- those that were made, and what is added to the numbers of rows
pub record Held : Type 0 where
  pub nodes : List Node
  pub leaves : List Kept
  pub given : Option (List Kept)
  pub made : List Kept
  pub offset : ℕ

abbrev pub held : Sources → Held
held from = record { nodes = from.table.now; leaves = from.leaves.now.here; given = option_map (λ kept. kept.now) from.given; made = from.made.now; offset = from.offset }

-- the same while whole values are made
abbrev pub alone : Held → Held
alone h = record { nodes = h.nodes; leaves = h.leaves; given = None; made = h.made; offset = h.offset }

-- what was handed in, by the number of the take or share
abbrev pub handed_in : Held → Handed
handed_in h = handed_by h.nodes h.given

-- the kept columns have the dtypes and the rows of their plans
abbrev pub AreTyped : List Node → List Kept → Type 0
AreTyped nodes kept = (n : ℕ) (column : ColumnData) → kept_at kept n ≡ Some column → (column.dtype ≡ (node_at nodes n).dtype) × (length column.values ≡ (node_at nodes n).rows)

-- each number of a row fits, with the offset; the rows of a plan are counted by a word
abbrev pub FitsOffset : List Node → ℕ → Type 0
FitsOffset nodes offset = (n : ℕ) → HasKind IsRowIdx nodes n → (node_at nodes n).rows < 2 ^ 64 → (node_at nodes n).rows + offset < 2 ^ 64

pub record IsHeld (h : Held) : Type 0 where
  pub leaves : AreTyped h.nodes h.leaves
  pub given : IfSome h.given (AreTyped h.nodes)
  pub made : AreTyped h.nodes h.made
  pub offset : FitsOffset h.nodes h.offset

-- the plan scans a segment
abbrev pub IsLeaf : List Node → ℕ → Type 0
IsLeaf nodes n = (segment : ℕ) × HasShape nodes n (shapes.Leaf segment)

-- and this is its column
abbrev pub IsLeafColumn : Held → ℕ → ColumnData → Type 0
IsLeafColumn h n column = IsLeaf h.nodes n × (kept_at h.leaves n ≡ Some column)

-- the kept columns of leaves have the leaves' values
abbrev pub HaveLeaves : List Node → List Kept → Leaves → Type 0
HaveLeaves nodes kept leaves = (n segment : ℕ) (column : ColumnData) → HasShape nodes n (shapes.Leaf segment) → kept_at kept n ≡ Some column → leaves (node_at nodes n).dtype (coding_of (node_at nodes n).kind) (node_at nodes n).rows segment ≡ Some column.values

-- the kept columns are the whole values of their plans
abbrev pub AreMade : List Node → ℕ → List Kept → Leaves → Type 0
AreMade nodes offset kept leaves = (n : ℕ) (column : ColumnData) → kept_at kept n ≡ Some column → whole_value leaves offset (plan_at nodes n) ≡ Some column.values

-- what is held is so by these leaves
pub record IsBy (h : Held) (leaves : Leaves) : Type 0 where
  pub leaves_are : HaveLeaves h.nodes h.leaves leaves
  pub made_are : AreMade h.nodes h.offset h.made leaves
