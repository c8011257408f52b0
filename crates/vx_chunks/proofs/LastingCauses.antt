-- A cause from a later state of a source on is one from an earlier.
use Rattle.std.proofs.Common.{List}
use Rattle.vx_rows.specs.SegmentLeaves.{Bytes, leaves_of}
use Rattle.vx_plan.specs.Refs.{number_of}
use Rattle.vx_steps.specs.KeptData.{Kept}
use Rattle.vx_steps.specs.ScanLaws.{IsTornIn}
use Rattle.vx_splits.specs.declared.selected_rows.SelectedRows.{SelectedRows}
use Rattle.vx_drive.specs.declared.errors.ScanError.{ScanError}
use Rattle.vx_drive.specs.declared.errors.ScanError.TheVariants.{BadProjection, OffsetOverflow, OutOfRange, Unsupported, NoLocation, ReadFault, Stalled, BadSegment, BadCode, EvalFault, Memory}
use Rattle.vx_drive.specs.declared.plans.ScanPlans.{ScanPlans}
use Rattle.vx_drive.specs.Asks.{Lasts}
use Rattle.vx_drive.proofs.Lasting.{rose_from}
use Rattle.vx_chunks.specs.ChunkRows.{ChunkFaultsAt, ChunkFinds, ChunkReadsBadCode}
use Rattle.vx_chunks.specs.Outcomes.{Causes, Claims}
use Rattle.vx_base.specs.Sources.{SourceState}

-- a cause from a later state on is one from an earlier
pub cause_lasts : (Told Other : Claims) → ((P : Bytes → Type 0) → Told P → Other P) → (plans : ScanPlans) (columns : List Kept) (chosen : SelectedRows) (error : ScanError) (before now after : SourceState) → Lasts before now → Causes Told plans columns chosen error now after → Causes Other plans columns chosen error before after
cause_lasts Told Other carries plans columns chosen BadProjection before now after lasts cause = absurd cause
cause_lasts Told Other carries plans columns chosen OffsetOverflow before now after lasts cause = absurd cause
cause_lasts Told Other carries plans columns chosen OutOfRange before now after lasts cause = absurd cause
cause_lasts Told Other carries plans columns chosen (Unsupported list) before now after lasts cause = cause
cause_lasts Told Other carries plans columns chosen (NoLocation segment) before now after lasts cause = cause
cause_lasts Told Other carries plans columns chosen ReadFault before now after lasts cause = rose_from 1 before.faults now.faults after.faults lasts.faults cause
cause_lasts Told Other carries plans columns chosen Stalled before now after lasts cause = rose_from plans.idle_limit before.idle now.idle after.idle lasts.idle cause
cause_lasts Told Other carries plans columns chosen (BadSegment segment) before now after lasts cause = carries (λ bytes. ChunkFinds (IsTornIn bytes segment) plans columns chosen) cause
cause_lasts Told Other carries plans columns chosen (BadCode take row) before now after lasts cause = carries (λ bytes. ChunkReadsBadCode (leaves_of bytes) plans columns chosen (number_of take) row) cause
cause_lasts Told Other carries plans columns chosen (EvalFault row) before now after lasts cause = carries (λ bytes. ChunkFaultsAt (leaves_of bytes) plans columns chosen row) cause
cause_lasts Told Other carries plans columns chosen Memory before now after lasts cause = tt
