-- The segments that are held, and those for which there is room.
use Rattle.std.specs.Prelude.{◌≡◌, ◌≢◌, ◌↔◌, ℕ, ◌≤◌, ◌⊎◌, ◌==◌, if◌then◌else◌, List, length, Some}
use Rattle.std.specs.List.{slice_get}
use Rattle.std.specs.BTreeMap.{BTreeMap, get}
use Rattle.std.specs.Ordering.{nat_cmp}
use Rattle.vx_steps.specs.Needs.{Among}

-- the segments that are held, in some order, and those that can be held without memory, with those that are held
pub record HeldData : Type 0 where
  pub held : List ℕ
  pub room : List ℕ

-- the segment is held
abbrev pub Holds : HeldData → ℕ → Type 0
Holds segments segment = Among segment segments.held

-- there is room for the segment
abbrev pub HasRoom : HeldData → ℕ → Type 0
HasRoom segments segment = Among segment segments.room

-- there still is room for each segment that there was room for
abbrev pub KeepsRoom : HeldData → HeldData → Type 0
KeepsRoom old new = (segment : ℕ) → HasRoom old segment → HasRoom new segment

-- the segment is held, those that were held are too, and no others
abbrev pub HoldsOneMore : ℕ → HeldData → HeldData → Type 0
HoldsOneMore segment old new = (s : ℕ) → Holds new s ↔ (Holds old s ⊎ (segment ≡ s))

-- those that were held are, but for the segment, and no others
abbrev pub HoldsNoMore : ℕ → HeldData → HeldData → Type 0
HoldsNoMore segment old new = (s : ℕ) → Holds new s ↔ (Holds old s × (segment ≢ s))

-- ---- the slots

-- the place of each segment that has a slot, and of no other
abbrev pub ArePlacesOf : BTreeMap ℕ ℕ → List ℕ → Type 0
ArePlacesOf places slots = (segment place : ℕ) → (get nat_cmp places segment ≡ Some place) ↔ (slice_get slots place ≡ Some segment)

-- The places of the slots, the first of which are those of the segments that are held.
pub record AreSlots (places : BTreeMap ℕ ℕ) (slots : List ℕ) (count : ℕ) : Type 0 where
  pub placed : ArePlacesOf places slots
  pub inside : count ≤ length slots

-- two segments changed their slots
abbrev pub Exchanged : ℕ → ℕ → List ℕ → List ℕ → Type 0
Exchanged one other old new = (place : ℕ) → slice_get new place ≡ (if other == place then slice_get old one else if one == place then slice_get old other else slice_get old place)
