-- What is added to names that were found before.
use Rattle.std.specs.Prelude.{◌≡◌, ℕ, Bool, true, false, List, ◌++◌, Option, Some, None}

-- these names were added; where there are none, nothing is said of the names
abbrev pub Collects : Option (List (List ℕ)) → Bool → List (List ℕ) → List (List ℕ) → Type 0
Collects (Some names) true old new = new ≡ old ++ names
Collects (Some names) false old new = ⊥
Collects None true old new = ⊥
Collects None false old new = Unit {0}
