-- What the values that the run of a chunk used are to its piece.
use Rattle.std.proofs.Common.{inr, List}
use Rattle.std.specs.Prelude.{IfOk, Result, Ok, Err}
use Rattle.vx_base.specs.Columns.{ColumnData}
use Rattle.vx_base.specs.Sources.{SourceState}
use Rattle.vx_plan.specs.Refs.{number_of}
use Rattle.vx_plan.specs.Tables.{IsGoodTable}
use Rattle.vx_rows.specs.SegmentLeaves.{leaves_of}
use Rattle.vx_splits.specs.declared.selected_rows.SelectedRows.{SelectedRows}
use Rattle.vx_steps.specs.declared.wholes.Wholes.{Wholes}
use Rattle.vx_steps.specs.GivenLaws.{AreServed}
use Rattle.vx_steps.specs.KeptData.{Kept}
use Rattle.vx_steps.proofs.CertifiedValues.{certified_columns}
use Rattle.vx_steps.proofs.UsedValues.{used_columns}
use Rattle.vx_drive.specs.declared.errors.ScanError.{ScanError}
use Rattle.vx_drive.specs.declared.plans.ScanPlans.{ScanPlans}
use Rattle.vx_drive.specs.Plans.{bytes_of, ArePlans, IsChunkOf}
use Rattle.vx_chunks.specs.declared.outcomes.ChunkOutcome.{ChunkOutcome}
use Rattle.vx_chunks.specs.ChunkRows.{IsPlanPiece}
use Rattle.vx_chunks.specs.Outcomes.{GivesPiece, KeepsValues, RunsChunk, AreAllUsedOrMade, data_of, told_by}
use Rattle.vx_chunks.proofs.ChunkScanning.{IsGoodChunk, good_chunk}
use Rattle.vx_scan.specs.ChunkLaws.{told_whole}

-- the whole values that were used and made
abbrev pub wholes_of : ChunkOutcome → Wholes
wholes_of outcome = record { used = data_of outcome.used.items; made = data_of outcome.made.items }

-- those that were used are given ones, and all that the chunk's rows ask for is there
pub served : (plans : ScanPlans) (chosen : SelectedRows) (given : List Kept) (outcome : ChunkOutcome) (before : SourceState) → KeepsValues plans given chosen outcome before → AreAllUsedOrMade plans given chosen outcome
    → AreServed plans.table given (wholes_of outcome) (number_of plans.projection) chosen.scope.rows.start chosen.mask
served plans chosen given outcome before keeps there = record {
  uses = record {
    grows = λ n column at. absurd cc;
    only = λ n column at. inr (keeps.used n column at);
    apart = λ none. keeps.apart_used;
  };
  there = there;
}

used_piece : (plans : ScanPlans) (chosen : SelectedRows) (given : List Kept) (outcome : ChunkOutcome) (before : SourceState) (column : ColumnData) → IsGoodTable plans.table → ArePlans plans → KeepsValues plans given chosen outcome before → AreAllUsedOrMade plans given chosen outcome
    → GivesPiece (told_by plans before) plans given chosen column → GivesPiece (told_by plans before) plans (data_of outcome.used.items) chosen column
used_piece plans chosen given outcome before column good are keeps there gives = record {
  dtype = gives.dtype;
  count = gives.count;
  values = λ file told.
      used_columns plans.table good given (wholes_of outcome) (leaves_of (bytes_of plans file)) plans.row_offset (number_of plans.projection) chosen.scope.rows.start chosen.mask column.values are.known
      (served plans chosen given outcome before keeps there) (gives.values file told);
}

whole_piece : (plans : ScanPlans) (chosen : SelectedRows) (given : List Kept) (outcome : ChunkOutcome) (before : SourceState) (column : ColumnData) → IsGoodChunk plans chosen → KeepsValues plans given chosen outcome before → AreAllUsedOrMade plans given chosen outcome
    → GivesPiece (told_by plans before) plans given chosen column → told_whole plans (data_of outcome.used.items) before (λ bytes. IsPlanPiece (leaves_of bytes) plans chosen column)
whole_piece plans chosen given outcome before column is keeps there gives = λ file told whole.
    certified_columns plans.table is.good given (wholes_of outcome) (leaves_of (bytes_of plans file)) plans.row_offset (number_of plans.projection) chosen.scope.rows.start chosen.mask column.values is.known is.inside
    (served plans chosen given outcome before keeps there) whole (gives.values file told)

-- both are so of a piece
both_ok : {X : Type 0} (piece : Result X ScanError) (P Q R : X → Type 0) → ((x : X) → P x → Q x → R x) → IfOk piece P → IfOk piece Q → IfOk piece R
both_ok (Ok x) P Q R f one two = f x one two
both_ok (Err error) P Q R f one two = tt

pub used_give_piece : (plans : ScanPlans) → IsGoodTable plans.table → ArePlans plans → (chosen : SelectedRows) (given : List Kept) (outcome : ChunkOutcome) (before after : SourceState)
    → RunsChunk plans chosen given outcome before after → IfOk outcome.piece (GivesPiece (told_by plans before) plans (data_of outcome.used.items) chosen)
used_give_piece plans good are chosen given outcome before after runs =
    both_ok outcome.piece (λ column. AreAllUsedOrMade plans runs.fitting chosen outcome) (GivesPiece (told_by plans before) plans runs.fitting chosen) (GivesPiece (told_by plans before) plans (data_of outcome.used.items) chosen)
    (λ column there gives. used_piece plans chosen runs.fitting outcome before column good are runs.values there gives) runs.values.there runs.content

pub whole_give_piece : (plans : ScanPlans) → IsGoodTable plans.table → ArePlans plans → (chosen : SelectedRows) → IsChunkOf plans chosen → (given : List Kept) (outcome : ChunkOutcome) (before after : SourceState)
    → RunsChunk plans chosen given outcome before after → IfOk outcome.piece (λ column. told_whole plans (data_of outcome.used.items) before (λ bytes. IsPlanPiece (leaves_of bytes) plans chosen column))
whole_give_piece plans good are chosen is given outcome before after runs =
    both_ok outcome.piece (λ column. AreAllUsedOrMade plans runs.fitting chosen outcome) (GivesPiece (told_by plans before) plans runs.fitting chosen)
    (λ column. told_whole plans (data_of outcome.used.items) before (λ bytes. IsPlanPiece (leaves_of bytes) plans chosen column))
    (λ column there gives. whole_piece plans chosen runs.fitting outcome before column (good_chunk plans chosen good are.known is) runs.values there gives) runs.values.there runs.content
