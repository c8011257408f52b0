-- Chunks whose rows nothing hinders from having values, but what bytes come.
use Rattle.std.specs.Prelude.{ℕ, ◌<◌, List, [], length, IsSomeAnd}
use Rattle.std.specs.List.{slice_get}
use Rattle.vx_splits.specs.declared.selected_rows.SelectedRows.{SelectedRows}
use Rattle.vx_drive.specs.declared.plans.ScanPlans.{ScanPlans}
use Rattle.vx_chunks.specs.ChunkRows.{ChunkReaches, ChunkReadsList}

-- No selected row reads a row of a list, and each segment that one reaches has a location, also those that are reached only
-- for values that are borrowed or were made before.
pub record IsUnhindered (plans : ScanPlans) (chosen : SelectedRows) : Type 0 where
  pub no_list : (list : ℕ) → ChunkReadsList plans [] chosen list → ⊥
  pub located : (segment : ℕ) → ChunkReaches plans chosen segment → segment < length plans.locations.items

-- so it is of the chunk of that number
abbrev pub IsUnhinderedAt : ScanPlans → List SelectedRows → ℕ → Type 0
IsUnhinderedAt plans chunks x = IsSomeAnd (slice_get chunks x) (IsUnhindered plans)
