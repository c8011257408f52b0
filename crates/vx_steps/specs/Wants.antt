-- What a split needs: the leaves that its selected rows read, and their segments.
use Rattle.std.specs.Prelude.{◌≡◌, ℕ, Bool, List, Some, None}
use Rattle.std.specs.List.{slice_get}
use Rattle.vx_plan.specs.Nodes.{Node}
use Rattle.vx_plan.specs.Plans.{plan_at}
use Rattle.vx_steps.specs.declared.leaf_reads.LeafRead.{LeafRead}
use Rattle.vx_steps.specs.Given.{handed_by}
use Rattle.vx_steps.specs.KeptData.{Kept}
use Rattle.vx_steps.specs.Kept.{kept_at}
use Rattle.vx_steps.specs.Needs.{Among}
use Rattle.vx_steps.specs.ReadTable.{StandsAt}
use Rattle.vx_steps.specs.ReadTableData.{Wanted}
use Rattle.vx_steps.specs.Visits.{SomeVisit, IsLeafRead}

-- a selected row of the plan reads the leaf
abbrev pub ReadsLeaf : List Node → List Kept → ℕ → ℕ → List Bool → LeafRead → Type 0
ReadsLeaf nodes given n start bits read = SomeVisit (IsLeafRead read) (handed_by nodes (Some given)) (plan_at nodes n) start bits

-- exactly the reads that are so
pub record AreNeeds (P : LeafRead → Type 0) (needs : List LeafRead) : Type 0 where
  pub only : (read : LeafRead) → Among read needs → P read
  pub all : (read : LeafRead) → P read → Among read needs

-- the segment is wanted
abbrev pub IsAsked : List Wanted → ℕ → Type 0
IsAsked wanted segment = (place : ℕ) × StandsAt wanted segment place

-- a needed leaf names the segment, and no column was handed in for it
abbrev pub IsNeeded : List LeafRead → List Kept → ℕ → Type 0
IsNeeded needs handed segment = (read : LeafRead) × Among read needs × (kept_at handed read.leaf ≡ None) × (read.segment ≡ segment)

-- one of the needed leaves has the number
abbrev pub IsNeededLeaf : List LeafRead → ℕ → Type 0
IsNeededLeaf needs n = (read : LeafRead) × Among read needs × (read.leaf ≡ n)

-- what stands in the old list stands in the new one, at the same place
abbrev pub Grows : List Wanted → List Wanted → Type 0
Grows old new = (place : ℕ) (w : Wanted) → slice_get old place ≡ Some w → slice_get new place ≡ Some w
