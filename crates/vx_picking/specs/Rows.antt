-- The selected rows of a range: those at whose place the mask is true.
use Rattle.std.specs.Prelude.{◌≡◌, ℕ, ◌+◌, Bool, true, false, cond, List, [], ◌∷◌, map, Option, Some}
use Rattle.std.specs.List.{slice_get}

-- the selected rows, from the first row of the range on
abbrev pub rows_of : ℕ → List Bool → List ℕ
rows_of start [] = []
rows_of start (bit ∷ bits) = cond bit (start ∷ rows_of (start + 1) bits) (rows_of (start + 1) bits)

-- some selected row is so
abbrev pub SomeRow : (ℕ → Type 0) → ℕ → List Bool → Type 0
SomeRow P start bits = (place : ℕ) × (slice_get bits place ≡ Some true) × P (start + place)

abbrev pub SelectsNone : List Bool → Type 0
SelectsNone bits = (place : ℕ) → slice_get bits place ≡ Some true → ⊥

abbrev pub SelectsSome : List Bool → Type 0
SelectsSome bits = (place : ℕ) × (slice_get bits place ≡ Some true)

-- These are what f gives at the rows, none of which is a fault.
abbrev pub AreOf : {X : Type 0} → (ℕ → Option X) → List ℕ → List X → Type 0
AreOf f rows values = map f rows ≡ map Some values

-- whether some row is selected
abbrev pub selects_some : List Bool → Bool
selects_some [] = false
selects_some (bit ∷ bits) = cond bit true (selects_some bits)
