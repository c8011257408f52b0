-- Needs of which rows are left.
use Rattle.std.specs.Prelude.{◌≡◌, ℕ, ◌<◌, ◌≤◌, List, ◌∷◌}
use Rattle.vx_steps.specs.declared.placed_reads.PlacedRead.{PlacedRead}
use Rattle.vx_steps.specs.Needs.{Among}

-- the last row of each need stands at the place or behind it
abbrev pub EndBehind : ℕ → List PlacedRead → Type 0
EndBehind place needs = (need : PlacedRead) → Among need needs → place ≤ need.last

-- the first need is passed, whose last row stands in front of the place
abbrev pub Passes : ℕ → List PlacedRead → List PlacedRead → PlacedRead → Type 0
Passes place old new need = (old ≡ need ∷ new) × (need.last < place)
