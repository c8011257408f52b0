-- Which place a table has for a plan.
use Rattle.std.specs.Prelude.{◌≡◌, ℕ, ◌-◌, ◌==◌, if◌then◌else◌, Option, Some, None}
use Rattle.vx_steps.specs.declared.places.PlaceTable.{PlaceTable}
use Rattle.vx_steps.specs.NumberTable.{number_in}

-- the place that is one less than the number, and none where the number is 0
abbrev pub place_before : ℕ → Option ℕ
place_before number = if number == 0 then None else Some (number - 1)

-- the place of the plan of that number, if it has one
unfoldable pub place_in : PlaceTable → ℕ → Option ℕ
place_in table n = place_before (number_in table.numbers n)

-- each plan has the place that it had
abbrev pub KeepsPlaces : PlaceTable → PlaceTable → Type 0
KeepsPlaces old new = (n : ℕ) → place_in new n ≡ place_in old n

-- the plan of that number has this place or none, and every other the one that it had
abbrev pub SetsPlace : ℕ → Option ℕ → PlaceTable → PlaceTable → Type 0
SetsPlace plan place old new = (n : ℕ) → place_in new n ≡ (if plan == n then place else place_in old n)
