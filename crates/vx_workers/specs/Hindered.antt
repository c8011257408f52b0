-- Chunks with rows that have no value, whatever bytes come.
use Rattle.std.specs.Prelude.{◌≡◌, ◌≤◌, ◌⊎◌, Bool, [], length, Option, Some, None, Err}
use Rattle.vx_plan.specs.Refs.{number_of}
use Rattle.vx_splits.specs.declared.selected_rows.SelectedRows.{SelectedRows}
use Rattle.vx_drive.specs.declared.errors.ScanError.{ScanError}
use Rattle.vx_drive.specs.declared.errors.ScanError.TheVariants.{Unsupported, NoLocation}
use Rattle.vx_drive.specs.declared.plans.ScanPlans.{ScanPlans}
use Rattle.vx_chunks.specs.declared.outcomes.HandedOn.{HandedOn}
use Rattle.vx_chunks.specs.ChunkRows.{ChunkReaches, ChunkReadsList}
use Rattle.vx_workers.specs.declared.borrowing.Shared.{Shared}
use Rattle.vx_workers.specs.Borrowing.{RunsShared}
use Rattle.vx_workers.specs.Unhindered.{IsUnhindered}
use Rattle.vx_base.specs.Sources.{SourceState}

-- why the chunk has no piece: a selected row reads a row of the list, or reaches the segment, which has no location
abbrev pub IsHinderedBy : ScanPlans → SelectedRows → ScanError → Type 0
IsHinderedBy plans chosen (Unsupported list) = ChunkReadsList plans [] chosen (number_of list)
IsHinderedBy plans chosen (NoLocation segment) = ChunkReaches plans chosen segment × (length plans.locations.items ≤ segment)
IsHinderedBy plans chosen error = ⊥

-- the error tells why, if there is one
abbrev pub TellsHindrance : ScanPlans → SelectedRows → Option ScanError → Type 0
TellsHindrance plans chosen None = IsUnhindered plans chosen
TellsHindrance plans chosen (Some error) = IsHinderedBy plans chosen error

-- It failed with nothing borrowed, and nothing was asked for it.
pub record IsRefused (shared : Shared) (before after : SourceState) : Type 0 where
  pub alone : shared.borrowed.items ≡ []
  pub error : ScanError
  pub failed : shared.ran.piece ≡ Err error
  pub asked : after.asked ≡ before.asked

-- The chunk ran with what was handed on and with what it borrowed, if nothing hinders its rows; else it was refused before
-- anything was asked for it, and its worker stops.
pub record RunsIfUnhindered (shares : Bool) (plans : ScanPlans) (chosen : SelectedRows) (handed : HandedOn) (shared : Shared) (before after : SourceState) : Type 0 where
  pub runs : RunsShared shares plans chosen handed shared before after
  pub unhindered : IsUnhindered plans chosen ⊎ IsRefused shared before after
