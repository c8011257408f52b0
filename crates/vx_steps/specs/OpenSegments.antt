-- Which segments still have a leaf of a table over them whose column is not kept.
use Rattle.std.specs.Prelude.{◌≡◌, ℕ, ◌+◌, ◌<◌, ◌≤◌, ◌==◌, ◌⊎◌, if◌then◌else◌, List, Some, None, length}
use Rattle.std.specs.BTreeMap.{BTreeMap, get}
use Rattle.std.specs.Ordering.{nat_cmp}
use Rattle.vx_plan.specs.declared.shapes.Shape.TheVariants as shapes
use Rattle.vx_plan.specs.Nodes.{Node}
use Rattle.vx_plan.specs.Shapes.{HasShape}
use Rattle.vx_steps.specs.declared.open_segments.OpenSegments.{OpenSegments}
use Rattle.vx_steps.specs.Counts.{count_in}
use Rattle.vx_steps.specs.Kept.{kept_at}
use Rattle.vx_steps.specs.KeptData.{Kept}
use Rattle.vx_steps.specs.Needs.{Among}

-- the plan of the number is a leaf over the segment
abbrev pub IsLeafOver : List Node → ℕ → ℕ → Type 0
IsLeafOver nodes segment n = HasShape nodes n (shapes.Leaf segment)

-- it is such a leaf, and no column is kept of it
abbrev pub IsOpenLeaf : List Node → List Kept → ℕ → ℕ → Type 0
IsOpenLeaf nodes leaves segment n = IsLeafOver nodes segment n × (kept_at leaves n ≡ None)

-- at most so many numbers are such
abbrev pub AtMost : ℕ → (ℕ → Type 0) → Type 0
AtMost count P = (ns : List ℕ) × (length ns ≤ count) × ((n : ℕ) → P n → Among n ns)

-- of the leaves over a segment that has a count, at most so many are open
abbrev pub AreCounted : List Node → List Kept → OpenSegments → Type 0
AreCounted nodes leaves segments = (segment count : ℕ) → get nat_cmp segments.left segment ≡ Some count → AtMost count (IsOpenLeaf nodes leaves segment)

-- The open leaves among the first so many plans are counted, and no segment has a greater count than that of these plans.
pub record AreCountedTo (nodes : List Node) (leaves : List Kept) (plans : ℕ) (left : BTreeMap ℕ ℕ) : Type 0 where
  pub bounded : (segment : ℕ) → count_in left segment ≤ plans
  pub counted : (segment : ℕ) → AtMost (count_in left segment) (λ n. (n < plans) × IsOpenLeaf nodes leaves segment n)

-- the count of the segment is one more than it was, and those of others stay
abbrev pub AddsOne : ℕ → BTreeMap ℕ ℕ → BTreeMap ℕ ℕ → Type 0
AddsOne segment old new = (s : ℕ) → get nat_cmp new s ≡ (if segment == s then Some (count_in old segment + 1) else get nat_cmp old s)

-- each count was the same before, unless it is that of the segment, which may be one less
abbrev pub TakesOne : ℕ → OpenSegments → OpenSegments → Type 0
TakesOne segment old new = (s count : ℕ) → get nat_cmp new.left s ≡ Some count → (get nat_cmp old.left s ≡ Some count) ⊎ ((segment ≡ s) × (get nat_cmp old.left s ≡ Some (count + 1)))

-- the segment has a count, which is one at most
abbrev pub HasOneAtMost : ℕ → OpenSegments → Type 0
HasOneAtMost segment segments = (count : ℕ) × (get nat_cmp segments.left segment ≡ Some count) × (count < 2)
