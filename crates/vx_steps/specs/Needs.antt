-- Which leaves selected rows read.
use Rattle.std.specs.Prelude.{◌≡◌, ℕ, ◌<◌, ◌⊎◌, List, [], ◌∷◌, Option, Some, None, length}
use Rattle.std.specs.List.{AllByRecursion}
use Rattle.vx_plan.specs.declared.shapes.Shape.TheVariants as shapes
use Rattle.vx_plan.specs.Nodes.{Node}
use Rattle.vx_plan.specs.Plans.{plan_at}
use Rattle.vx_plan.specs.Rules.{node_at}
use Rattle.vx_plan.specs.Shapes.{HasShape}
use Rattle.vx_steps.specs.declared.leaf_reads.LeafRead.{LeafRead}
use Rattle.vx_steps.specs.KeptData.{Kept}
use Rattle.vx_steps.specs.Kept.{kept_at}
use Rattle.vx_steps.specs.Visits.{Test, SomeWholeVisit}

-- x is one of these
abbrev pub Among : {X : Type 0} → X → List X → Type 0
Among x [] = ⊥
Among x (y ∷ ys) = (y ≡ x) ⊎ Among x ys

-- each of these is one of those
abbrev pub AreAmong : {X : Type 0} → List X → List X → Type 0
AreAmong these those = (x : _) → Among x these → Among x those

-- The new list has the old elements, and exactly those that are so.
pub record Adds {X : Type 0} (P : X → Type 0) (old new : List X) : Type 0 where
  pub only : (x : X) → Among x new → Among x old ⊎ P x
  pub kept : (x : X) → Among x old → Among x new
  pub all : (x : X) → P x → Among x new

-- each read is of a leaf of the table, which names the segment
abbrev pub AreLeaves : List Node → List LeafRead → Type 0
AreLeaves nodes reads = AllByRecursion (λ read. (read.leaf < length nodes) × HasShape nodes read.leaf (shapes.Leaf read.segment)) reads

-- no values were handed in for the number
abbrev pub NoneGiven : Option (List Kept) → ℕ → Type 0
NoneGiven None n = Unit {0}
NoneGiven (Some kept) n = kept_at kept n ≡ None

-- no values were handed in for the number, and a row of the plan has the visit
abbrev pub IsUnderWhole : List Node → Option (List Kept) → ℕ → Test → ℕ → Type 0
IsUnderWhole nodes given whole P n = NoneGiven given whole × SomeWholeVisit P (plan_at nodes n) (node_at nodes n).rows
