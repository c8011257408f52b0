-- Between which numbers those of a command lie.
use Rattle.std.specs.Prelude.{ℕ, ◌<◌, ◌≤◌, IfSome}
use Rattle.scan_words.specs.declared.commands.Command.{Command}
use Rattle.scan_words.specs.declared.commands.Command.TheVariants.{Scan, Read, Tree, Demo}
use Rattle.vx_split_rules.specs.Rules.{IsZeroSize}
use Rattle.scan_words.specs.Limits.{most_demo_rows, most_workers}

-- a number between these two
pub record LiesBetween (least most number : ℕ) : Type 0 where
  pub at_least : least ≤ number
  pub at_most : number ≤ most

-- A number of workers, where one is said, lies between 1 and 64; an idle limit is above zero, a rule splits into some rows,
-- and a demo file has at most a million.
abbrev pub IsWithinBounds : Command → Type 0
IsWithinBounds (Scan segments request workers unordered idle) = IfSome workers (LiesBetween 1 most_workers) × (0 < idle)
IsWithinBounds (Read segments request split idle) = (IsZeroSize split → ⊥) × (0 < idle)
IsWithinBounds (Tree request) = Unit {0}
IsWithinBounds (Demo number) = number ≤ most_demo_rows
