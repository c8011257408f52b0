-- Leaves that rows read, by the places of the first and of the last row that read them.
use Rattle.std.specs.Prelude.{◌≡◌, ℕ, ◌+◌, ◌<◌, ◌≤◌, ◌⊎◌, ◌^◌, Bool, true, List, Some, length}
use Rattle.std.specs.List.{slice_get}
use Rattle.vx_plan.specs.declared.shapes.Shape.TheVariants as shapes
use Rattle.vx_plan.specs.Nodes.{Node}
use Rattle.vx_plan.specs.Shapes.{HasShape}
use Rattle.vx_steps.specs.declared.leaf_reads.LeafRead.{LeafRead}
use Rattle.vx_steps.specs.declared.placed_reads.Ends.{Ends}
use Rattle.vx_steps.specs.declared.placed_reads.PlacedRead.{PlacedRead}
use Rattle.vx_steps.specs.declared.placed_reads.Spot.{Spot}
use Rattle.vx_steps.specs.declared.placed_reads.Spot.TheVariants.{Behind, Whichever}
use Rattle.vx_steps.specs.KeptData.{Kept}
use Rattle.vx_steps.specs.Needs.{Among, IsUnderWhole}
use Rattle.vx_steps.specs.Pieces.{read_of, Covers, ReadsDirectly, ReadsInside}
use Rattle.vx_steps.specs.Visits.{IsLeafRead}
use Rattle.vx_steps.specs.Wholes.{Asks}

-- the first and the last selected row
pub record AreEnds (bits : List Bool) (ends : Ends) : Type 0 where
  pub first : slice_get bits ends.first ≡ Some true
  pub last : slice_get bits ends.last ≡ Some true
  pub least : (place : ℕ) → slice_get bits place ≡ Some true → ends.first ≤ place
  pub greatest : (place : ℕ) → slice_get bits place ≡ Some true → place ≤ ends.last

-- ---- spots

-- the place up to which a row waits, and that behind which it isn't needed: where it stands behind others, or, where all
-- rows are asked for, those of the first and of the last row that ask for them
abbrev pub first_at : Spot → ℕ → ℕ
first_at (Behind base) place = base + place
first_at (Whichever ends) place = ends.first

abbrev pub last_at : Spot → ℕ → ℕ
last_at (Behind base) place = base + place
last_at (Whichever ends) place = ends.last

-- the spot of rows that stand behind so many more
abbrev pub moved : Spot → ℕ → Spot
moved (Behind base) by = Behind (base + by)
moved (Whichever ends) by = Whichever ends

-- the places of so many rows fit
abbrev pub SpotFits : Spot → ℕ → Type 0
SpotFits (Behind base) count = base + count < 2 ^ 64
SpotFits (Whichever ends) count = Unit {0}

abbrev pub ends_at : Spot → Ends → Ends
ends_at spot ends = record { first = first_at spot ends.first; last = last_at spot ends.last }

-- ---- needs

-- the selected row at the place, which stands there, reads the leaf directly
abbrev pub IsDirectAt : List Node → List Kept → ℕ → ℕ → List Bool → (ℕ → ℕ) → LeafRead → ℕ → Type 0
IsDirectAt nodes given n start bits stands read at = (place : ℕ) × (at ≡ stands place) × (slice_get bits place ≡ Some true) × ReadsDirectly nodes given n (start + place) read

-- and for whole values
abbrev pub IsInsideAt : List Node → List Kept → ℕ → ℕ → List Bool → (ℕ → ℕ) → LeafRead → ℕ → Type 0
IsInsideAt nodes given n start bits stands read at = (place : ℕ) × (at ≡ stands place) × (slice_get bits place ≡ Some true) × ReadsInside nodes given n (start + place) read

-- It is of selected rows, which stand at the spot at its two places, or of whole values, for which all rows wait.
abbrev pub IsPlacedAt : List Node → List Kept → ℕ → ℕ → List Bool → Spot → PlacedRead → Type 0
IsPlacedAt nodes given n start bits spot need =
    (IsDirectAt nodes given n start bits (first_at spot) (read_of need) need.from × IsDirectAt nodes given n start bits (last_at spot) (read_of need) need.last)
    ⊎ ((need.from ≡ 0) × IsInsideAt nodes given n start bits (last_at spot) (read_of need) need.last)

-- the selected rows of the plan ask for no whole values
abbrev pub AskForNone : List Node → List Kept → ℕ → ℕ → List Bool → Type 0
AskForNone nodes given n start bits = (number : ℕ) → Asks nodes given n start bits number → ⊥

-- each need is of a leaf of the table, which names the segment
abbrev pub AreOfLeaves : List Node → List PlacedRead → Type 0
AreOfLeaves nodes needs = (need : PlacedRead) → Among need needs → (need.leaf < length nodes) × HasShape nodes need.leaf (shapes.Leaf need.segment)

-- the plan is the leaf, or a filter over it
abbrev pub IsLeafUnder : List Node → ℕ → LeafRead → Type 0
IsLeafUnder nodes n leaf = (leaf.leaf < length nodes) × HasShape nodes leaf.leaf (shapes.Leaf leaf.segment) × ((leaf.leaf ≡ n) ⊎ HasShape nodes n (shapes.Same leaf.leaf))

-- What the selected rows of a plan read was added, each by the places of rows that read it, at the spot.
pub record AddsPlaced (nodes : List Node) (given : List Kept) (n start : ℕ) (bits : List Bool) (spot : Spot) (old new : List PlacedRead) : Type 0 where
  pub only : (need : PlacedRead) → Among need new → Among need old ⊎ IsPlacedAt nodes given n start bits spot need
  pub kept : (need : PlacedRead) → Among need old → Among need new
  pub direct : (read : LeafRead) (place : ℕ) → slice_get bits place ≡ Some true → ReadsDirectly nodes given n (start + place) read → Covers new read (first_at spot place) (last_at spot place)
  pub inside : (read : LeafRead) (place : ℕ) → slice_get bits place ≡ Some true → ReadsInside nodes given n (start + place) read → Covers new read 0 (last_at spot place)
  pub leaves : AreOfLeaves nodes old → AreOfLeaves nodes new

-- What the whole values of the number read was added, if none were handed in for it, up to the last place.
pub record AddsUnder (nodes : List Node) (given : List Kept) (whole n last : ℕ) (old new : List PlacedRead) : Type 0 where
  pub only : (need : PlacedRead) → Among need new → Among need old ⊎ ((need.from ≡ 0) × (need.last ≡ last) × IsUnderWhole nodes (Some given) whole (IsLeafRead (read_of need)) n)
  pub kept : (need : PlacedRead) → Among need old → Among need new
  pub all : (read : LeafRead) → IsUnderWhole nodes (Some given) whole (IsLeafRead read) n → Covers new read 0 last
  pub leaves : AreOfLeaves nodes old → AreOfLeaves nodes new

-- a leaf for which all rows wait, and which no row behind the place reads
abbrev pub up_to : ℕ → LeafRead → PlacedRead
up_to last read = record { leaf = read.leaf; segment = read.segment; from = 0; last = last }
