-- What the values that the run of a chunk used are to its piece, and to the cause of its error.
use Rattle.std.specs.Prelude.{List, [], IfErr, IfOk}
use Rattle.vx_base.specs.Sources.{SourceState}
use Rattle.vx_plan.specs.Tables.{IsGoodTable}
use Rattle.vx_rows.specs.SegmentLeaves.{leaves_of}
use Rattle.vx_splits.specs.declared.selected_rows.SelectedRows.{SelectedRows}
use Rattle.vx_steps.specs.Held.{AreMade}
use Rattle.vx_steps.specs.KeptData.{Kept}
use Rattle.vx_drive.specs.declared.plans.ScanPlans.{ScanPlans}
use Rattle.vx_drive.specs.Plans.{ArePlans, IsChunkOf}
use Rattle.vx_chunks.specs.declared.outcomes.ChunkOutcome.{ChunkOutcome}
use Rattle.vx_chunks.specs.ChunkRows.{IsPlanPiece}
use Rattle.vx_chunks.specs.Outcomes.{Causes, Claims, GivesPiece, RunsChunk, data_of, told_by}

-- The piece of a chunk is that with the values in place of whole ones that were used, whatever else was given.
abbrev pub UsedGivePiece : Type 0
UsedGivePiece = (plans : ScanPlans) → IsGoodTable plans.table → ArePlans plans → (chosen : SelectedRows) (given : List Kept) (outcome : ChunkOutcome) (before after : SourceState)
    → RunsChunk plans chosen given outcome before after → IfOk outcome.piece (GivesPiece (told_by plans before) plans (data_of outcome.used.items) chosen)

-- what is claimed of the bytes of the file, where the source tells it and each of these values is the whole ones of its plan
-- by it
abbrev pub told_whole : ScanPlans → List Kept → SourceState → Claims
told_whole plans used source P = told_by plans source (λ bytes. AreMade plans.table plans.row_offset used (leaves_of bytes) → P bytes)

-- So where each of those is the whole values of its plan by the file, the piece has the values of the plan itself.
abbrev pub WholeGivePiece : Type 0
WholeGivePiece = (plans : ScanPlans) → IsGoodTable plans.table → ArePlans plans → (chosen : SelectedRows) → IsChunkOf plans chosen → (given : List Kept) (outcome : ChunkOutcome) (before after : SourceState)
    → RunsChunk plans chosen given outcome before after
    → IfOk outcome.piece (λ column. told_whole plans (data_of outcome.used.items) before (λ bytes. IsPlanPiece (leaves_of bytes) plans chosen column))

-- An error has its cause with the values in place of whole ones that were used.
abbrev pub UsedHaveCause : Type 0
UsedHaveCause = (plans : ScanPlans) → IsGoodTable plans.table → ArePlans plans → (chosen : SelectedRows) → IsChunkOf plans chosen → (given : List Kept) (outcome : ChunkOutcome) (before after : SourceState)
    → RunsChunk plans chosen given outcome before after → IfErr outcome.piece (λ error. Causes (told_by plans before) plans (data_of outcome.used.items) chosen error before after)

-- So where each of those is the whole values of its plan by the file, it has its cause with none.
abbrev pub WholeHaveCause : Type 0
WholeHaveCause = (plans : ScanPlans) → IsGoodTable plans.table → ArePlans plans → (chosen : SelectedRows) → IsChunkOf plans chosen → (given : List Kept) (outcome : ChunkOutcome) (before after : SourceState)
    → RunsChunk plans chosen given outcome before after → IfErr outcome.piece (λ error. Causes (told_whole plans (data_of outcome.used.items) before) plans [] chosen error before after)
