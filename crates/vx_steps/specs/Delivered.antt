-- What was delivered, and what follows for everything outside that agrees with it.
use Rattle.std.specs.Prelude.{◌≡◌, ℕ, ◌<◌, List, length, Some, None}
use Rattle.vx_base.specs.Columns.{ColumnData}
use Rattle.vx_base.specs.CodingsRead.{decoded_as}
use Rattle.vx_plan.specs.declared.shapes.Shape.TheVariants as shapes
use Rattle.vx_plan.specs.Kinds.{coding_of}
use Rattle.vx_plan.specs.Nodes.{Node}
use Rattle.vx_plan.specs.Rules.{node_at}
use Rattle.vx_plan.specs.Shapes.{HasShape}
use Rattle.vx_rows.specs.SegmentLeaves.{Bytes, leaves_of}
use Rattle.vx_steps.specs.declared.errors.StepError.{StepError}
use Rattle.vx_steps.specs.declared.errors.StepError.TheVariants.{BadSegment, Memory}
use Rattle.vx_steps.specs.declared.leaf_reads.LeafRead.{LeafRead}
use Rattle.vx_steps.specs.Agreement.{Agrees}
use Rattle.vx_steps.specs.Held.{AreMade, AreTyped, HaveLeaves}
use Rattle.vx_steps.specs.KeptData.{Kept}
use Rattle.vx_steps.specs.Kept.{kept_at, IsKept}
use Rattle.vx_steps.specs.Needs.{Among}
use Rattle.vx_steps.specs.ReadTable.{bytes_of}
use Rattle.vx_steps.specs.ReadTableData.{Wanted}

-- All that a scan holds is so outside: what was delivered are bytes from there, and the kept leaves and the whole
-- values that were made are those of these bytes.
pub record IsOf (nodes : List Node) (offset : ℕ) (wanted : List Wanted) (leaves made : List Kept) (outside : Bytes) : Type 0 where
  pub bytes : Agrees wanted outside
  pub leaves_are : HaveLeaves nodes leaves (leaves_of outside)
  pub made_are : AreMade nodes offset made (leaves_of outside)

-- More leaves are kept, and what was right stays so. A leaf the bytes of whose segment did not come is kept only if it was before.
pub record KeepsLeaves (nodes : List Node) (wanted : List Wanted) (old new : List Kept) : Type 0 where
  pub grows : (n : ℕ) (column : ColumnData) → kept_at old n ≡ Some column → kept_at new n ≡ Some column
  pub typed : AreTyped nodes old → AreTyped nodes new
  pub right : (outside : Bytes) → Agrees wanted outside → HaveLeaves nodes old (leaves_of outside) → HaveLeaves nodes new (leaves_of outside)
  pub came : (n segment : ℕ) → n < length nodes → HasShape nodes n (shapes.Leaf segment) → bytes_of wanted segment ≡ None → IsKept new n → IsKept old n

-- the delivered bytes of a needed leaf's segment spell no rows of it
abbrev pub IsTornNeed : List Node → List Wanted → LeafRead → Type 0
IsTornNeed nodes wanted need = (bytes : List ℕ) × (bytes_of wanted need.segment ≡ Some bytes) × (decoded_as (coding_of (node_at nodes need.leaf).kind) (node_at nodes need.leaf).dtype (node_at nodes need.leaf).rows bytes ≡ None)

-- a refusal of decoding has its cause in the need
abbrev pub HasTornCause : List Node → List Wanted → LeafRead → StepError → Type 0
HasTornCause nodes wanted need (BadSegment segment) = (need.segment ≡ segment) × IsTornNeed nodes wanted need
HasTornCause nodes wanted need Memory = Unit {0}
HasTornCause nodes wanted need error = ⊥

abbrev pub SomeTornCause : List Node → List Wanted → List LeafRead → StepError → Type 0
SomeTornCause nodes wanted needs (BadSegment segment) = (need : LeafRead) × Among need needs × ((need.segment ≡ segment) × IsTornNeed nodes wanted need)
SomeTornCause nodes wanted needs Memory = Unit {0}
SomeTornCause nodes wanted needs error = ⊥
