-- Rows of values that are made row by row, as far as the first fault.
use Rattle.std.specs.Prelude.{List, [], ◌∷◌, Option, Some, None}

-- row by row, for as many rows as both have
abbrev pub along : {A B C : Type 0} → (A → B → C) → List A → List B → List C
along f [] ys = []
along f (x ∷ xs) [] = []
along f (x ∷ xs) (y ∷ ys) = f x y ∷ along f xs ys

-- the values before the first fault
abbrev pub front : {A : Type 0} → List (Option A) → List A
front [] = []
front (None ∷ rest) = []
front (Some v ∷ rest) = v ∷ front rest
