-- Splits, columns and reads by hand, on which the definitions of a scan's steps are checked.
use Rattle.std.specs.Prelude.{ℕ, Bool, List, [], map, Option}
use Rattle.vx_base.specs.declared.dtypes.Nullability.TheVariants.{NonNullable}
use Rattle.vx_base.specs.ColumnCalls.{natural}
use Rattle.vx_base.specs.Columns.{ColumnData}
use Rattle.vx_base.specs.Data.{bool_type, truth}
use Rattle.vx_rows.specs.ByHand.{i64}
use Rattle.vx_steps.specs.declared.splits.Split.{Split}
use Rattle.vx_steps.specs.Held.{Held}
use Rattle.vx_steps.specs.KeptData.{Kept}
use Rattle.vx_steps.specs.ReadTableData.{Stored, Wanted}

abbrev pub split_of : ℕ → ℕ → List Bool → Split
split_of start end mask = record { rows = record { start = start; end = end }; mask = mask }

abbrev pub numbers_in : List ℕ → ColumnData
numbers_in numbers = record { dtype = i64; values = map natural numbers }

abbrev pub truths_in : List Bool → ColumnData
truths_in bits = record { dtype = bool_type NonNullable; values = map truth bits }

-- a column of these numbers for the plan of that number
abbrev pub kept_of : ℕ → List ℕ → Kept
kept_of node numbers = record { node = node; column = numbers_in numbers }

-- these whole values are handed in, if any are, and those were made
abbrev pub held_of : Option (List Kept) → List Kept → Held
held_of given made = record { nodes = []; leaves = []; given = given; made = made; offset = 0 }

abbrev pub wanted_of : ℕ → Option (List ℕ) → Wanted
wanted_of segment bytes = record { segment = segment; bytes = bytes }

-- whether the bytes of a wanted segment are gone
abbrev pub stored_of : ℕ → Bool → Stored
stored_of segment gone = record { segment = segment; gone = gone; last = 0 }
