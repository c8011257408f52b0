-- Whole values that selected rows ask for: those that were made, and those that were handed in and used.
use Rattle.std.specs.Prelude.{◌≡◌, ℕ, ◌⊎◌, Bool, List, None, Some, Err}
use Rattle.vx_base.specs.Columns.{ColumnData}
use Rattle.vx_rows.specs.Derivations.{Leaves}
use Rattle.vx_plan.specs.declared.shapes.Shape.TheVariants as shapes
use Rattle.vx_plan.specs.Nodes.{Node}
use Rattle.vx_plan.specs.Plans.{Plan, plan_at}
use Rattle.vx_plan.specs.Refs.{number_of}
use Rattle.vx_plan.specs.Shapes.{HasShape}
use Rattle.vx_steps.specs.declared.errors.StepError.{StepError}
use Rattle.vx_steps.specs.declared.errors.StepError.TheVariants.{Unsupported, BadSegment, BadCode, EvalFault, Memory}
use Rattle.vx_steps.specs.declared.leaf_reads.LeafRead.{LeafRead}
use Rattle.vx_steps.specs.declared.wholes.Grounds.{Grounds}
use Rattle.vx_steps.specs.declared.wholes.Wholes.{Wholes}
use Rattle.vx_steps.specs.Computed.{whole_in, ComputesWhole, UnlessList}
use Rattle.vx_steps.specs.Given.{Handed, handed_by}
use Rattle.vx_steps.specs.Held.{Held, handed_in, AreMade, AreTyped, HaveLeaves, IsBy}
use Rattle.vx_steps.specs.KeptData.{Kept}
use Rattle.vx_steps.specs.Kept.{kept_at, AreOfDistinctPlans, IsKept}
use Rattle.vx_steps.specs.Visits.{Test, SomeVisit, HasBadCode, HasEvalFault, IsLeafRead, IsListRead, IsWholeRead}

-- what columns are computed from, with these whole values
abbrev pub held_with : Grounds → Wholes → Held
held_with grounds wholes = record { nodes = grounds.table.now; leaves = grounds.leaves.now.here; given = Some grounds.given.now; made = wholes.made; offset = grounds.offset }

-- More values are kept, and what was right stays so.
pub record KeepsValues (nodes : List Node) (leaves : List Kept) (offset : ℕ) (old new : List Kept) : Type 0 where
  pub grows : (n : ℕ) (column : ColumnData) → kept_at old n ≡ Some column → kept_at new n ≡ Some column
  pub typed : AreTyped nodes old → AreTyped nodes new
  pub apart : AreOfDistinctPlans old → AreOfDistinctPlans new
  pub right : (by : Leaves) → HaveLeaves nodes leaves by → AreMade nodes offset old by → AreMade nodes offset new by

-- More of the values that were handed in are listed as used, each once.
pub record UsesGiven (given old new : List Kept) : Type 0 where
  pub grows : (n : ℕ) (column : ColumnData) → kept_at old n ≡ Some column → kept_at new n ≡ Some column
  pub only : (n : ℕ) (column : ColumnData) → kept_at new n ≡ Some column → (kept_at old n ≡ Some column) ⊎ (kept_at given n ≡ Some column)
  pub apart : AreOfDistinctPlans old → AreOfDistinctPlans new

-- The whole values of the number were used where they were handed in, and else made.
abbrev pub IsThere : List Kept → Wholes → ℕ → Type 0
IsThere given wholes n = (IsKept given n × IsKept wholes.used n) ⊎ ((kept_at given n ≡ None) × IsKept wholes.made n)

-- the selected rows of a plan ask for the whole values of the number
abbrev pub Asks : List Node → List Kept → ℕ → ℕ → List Bool → ℕ → Type 0
Asks nodes given plan start bits n = SomeVisit (IsWholeRead n) (handed_by nodes (Some given)) (plan_at nodes plan) start bits

-- no row of the plan asks for whole values
abbrev pub AsksNone : List Node → ℕ → Type 0
AsksNone nodes plan = (given : List Kept) (start : ℕ) (bits : List Bool) (n : ℕ) → Asks nodes given plan start bits n → ⊥

-- all that the selected rows of a plan ask for are there
abbrev pub AreThere : List Node → List Kept → Wholes → ℕ → ℕ → List Bool → Type 0
AreThere nodes given wholes plan start bits = (n : ℕ) → Asks nodes given plan start bits n → IsThere given wholes n

-- nothing was added but for numbers that are so
abbrev pub AddsOnly : (ℕ → Type 0) → List Kept → List Kept → Type 0
AddsOnly P old new = (n : ℕ) → IsKept new n → IsKept old n ⊎ P n

-- Only whole values that the selected rows of a plan ask for were added.
pub record AddsAsked (nodes : List Node) (given : List Kept) (plan start : ℕ) (bits : List Bool) (old new : Wholes) : Type 0 where
  pub used : AddsOnly (Asks nodes given plan start bits) old.used new.used
  pub made : AddsOnly (Asks nodes given plan start bits) old.made new.made

-- Only whole values of the number were added.
pub record AddsOne (number : ℕ) (old new : Wholes) : Type 0 where
  pub used : AddsOnly (λ n. number ≡ n) old.used new.used
  pub made : AddsOnly (λ n. number ≡ n) old.made new.made

-- The whole values of the number are those of all rows of the plan: it is the plan itself, or a share of it.
abbrev pub IsWholeOf : List Node → ℕ → ℕ → Type 0
IsWholeOf nodes number plan = (number ≡ plan) ⊎ HasShape nodes number (shapes.Shared plan)

-- There is no memory left, or no whole values are there for the number, and some row of the plan has the fault.
abbrev pub WholeFails : Held → ℕ → ℕ → StepError → Type 0
WholeFails h number plan error = (error ≡ Memory) ⊎ ((whole_in h number ≡ None) × ComputesWhole h plan (Err error))

-- ---- faults of whole values

-- the visit is one inside whole values, where nothing that was handed in counts
abbrev pub Inside : Test → Test
Inside P None p row = P None p row
Inside P (Some given) p row = ⊥

-- each leaf that the selected rows read for whole values is kept
abbrev pub AreReadyInside : Held → ℕ → ℕ → List Bool → Type 0
AreReadyInside h n start bits = (read : LeafRead) → SomeVisit (Inside (IsLeafRead read)) (handed_in h) (plan_at h.nodes n) start bits → IsKept h.leaves read.leaf

-- Some selected row has the visit that the fault names, inside whole values.
abbrev pub HasInsideCause : Leaves → Handed → ℕ → Plan → ℕ → List Bool → StepError → Type 0
HasInsideCause leaves handed offset p start bits (Unsupported list) = SomeVisit (Inside (IsListRead (number_of list))) handed p start bits
HasInsideCause leaves handed offset p start bits (BadSegment segment) = ⊥
HasInsideCause leaves handed offset p start bits (BadCode take at) = SomeVisit (Inside (HasBadCode leaves offset (number_of take) at)) handed p start bits
HasInsideCause leaves handed offset p start bits (EvalFault at) = SomeVisit (Inside (HasEvalFault leaves offset at)) handed p start bits
HasInsideCause leaves handed offset p start bits Memory = Unit {0}

-- For all leaves by which what is held is so: the fault is one of whole values that the selected rows ask for. That a list
-- is read there is so for all leaves.
abbrev pub FailsInside : Held → ℕ → ℕ → List Bool → StepError → Type 0
FailsInside h n start bits error = (leaves : Leaves) → UnlessList error (IsBy h leaves) → HasInsideCause leaves (handed_in h) h.offset (plan_at h.nodes n) start bits error
