-- The whole values that the selected rows of a plan ask for where nothing is handed in, as a list of plans.
use Rattle.std.specs.Prelude.{◌≢◌, ◌↔◌, ℕ, Bool, List, [], AllPairs}
use Rattle.vx_plan.specs.Nodes.{Node}
use Rattle.vx_rows.specs.Reads.{IsAmong}
use Rattle.vx_steps.specs.Wholes.{Asks}

-- The plans of exactly those numbers are listed whose whole values the selected rows ask for: those of the values of
-- outermost takes, and outermost shares.
abbrev pub AreAskedPlans : List Node → ℕ → ℕ → List Bool → List ℕ → Type 0
AreAskedPlans nodes plan start bits asked = (n : ℕ) → IsAmong n asked ↔ Asks nodes [] plan start bits n

-- the same numbers, however often each stands there
abbrev pub AreSame : List ℕ → List ℕ → Type 0
AreSame ones others = (n : ℕ) → IsAmong n ones ↔ IsAmong n others

-- no number stands twice
abbrev pub AreEachOnce : List ℕ → Type 0
AreEachOnce numbers = AllPairs (λ (one other : ℕ). one ≢ other) numbers
