-- Rows that are picked out of a list by their places, and what rows that a mask leaves out hold.
use Rattle.std.specs.Prelude.{◌≡◌, ℕ, Bool, true, false, List, [], ◌∷◌, map, slice_index_or}

-- the rows at these places, and the blank at a place past the last row
abbrev pub taken : {X : Type 0} → X → List X → List ℕ → List X
taken blank rows places = map (λ place. slice_index_or rows place blank) places

-- a row that is not valid holds the blank
abbrev pub Holds : {X : Type 0} → X → Bool → X → Type 0
Holds blank true x = Unit {0}
Holds blank false x = x ≡ blank

-- each row that the mask leaves out holds the blank
abbrev pub NullsHold : {X : Type 0} → X → List Bool → List X → Type 0
NullsHold blank [] rows = Unit {0}
NullsHold blank (true ∷ mask) [] = Unit {0}
NullsHold blank (false ∷ mask) [] = Unit {0}
NullsHold blank (true ∷ mask) (x ∷ rows) = NullsHold blank mask rows
NullsHold blank (false ∷ mask) (x ∷ rows) = (x ≡ blank) × NullsHold blank mask rows
