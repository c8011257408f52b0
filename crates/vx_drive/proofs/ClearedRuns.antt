-- A run between two clears of its source.
use Rattle.std.proofs.Common.{◌≡◌, ◌∙◌, ℕ, List, [], Option, Some, None, Ok, Err, ap, subst, sym}
use Rattle.std.specs.Prelude.{Result}
use Rattle.vx_steps.specs.ScanData.{ScanData}
use Rattle.vx_drive.specs.declared.errors.ScanError.{ScanError}
use Rattle.vx_drive.specs.declared.errors.ScanError.TheVariants as errors
use Rattle.vx_drive.specs.declared.runs.Finished.{Finished}
use Rattle.vx_drive.specs.Asks.{AsksOnly}
use Rattle.vx_drive.specs.Finished.{Finishes, LeavesKept}
use Rattle.vx_drive.specs.Runs.{GivesOutput, IsReadByStart, RunAnswer, RunCause, RunGives}
use Rattle.vx_base.specs.Columns.{ColumnData}
use Rattle.vx_base.specs.Sources.{SourceState, Cleared}
use Rattle.vx_base.specs.declared.locations.SegmentLocation.{SegmentLocation}

cleared_same : (old new : SourceState) → Cleared old new → new ≡ record old { in_flight = [] }
cleared_same old new is = λ i. record { file = is.file i; asked = is.asked i; in_flight = is.in_flight i; faults = is.faults i; idle = is.idle i }

cause_between : (locations : List SegmentLocation) (limit : ℕ) (start : ScanData) (error : ScanError) (before after : SourceState) → RunCause locations limit start error (record before { in_flight = [] }) after → RunCause locations limit start error before (record after { in_flight = [] })
cause_between locations limit start errors.BadProjection before after cause = cause
cause_between locations limit start errors.OffsetOverflow before after cause = cause
cause_between locations limit start errors.OutOfRange before after cause = cause
cause_between locations limit start (errors.Unsupported list) before after cause = cause
cause_between locations limit start (errors.NoLocation segment) before after cause = cause
cause_between locations limit start errors.ReadFault before after cause = cause
cause_between locations limit start errors.Stalled before after cause = cause
cause_between locations limit start (errors.BadSegment segment) before after cause = cause
cause_between locations limit start (errors.BadCode take row) before after cause = cause
cause_between locations limit start (errors.EvalFault row) before after cause = cause
cause_between locations limit start errors.Memory before after cause = cause

output_between : (locations : List SegmentLocation) (start scan : ScanData) (before : SourceState) (output : Option ColumnData) → GivesOutput locations start scan (record before { in_flight = [] }) output → GivesOutput locations start scan before output
output_between locations start scan before (Some column) gave = record { dtype = gave.dtype; count = gave.count; right = gave.right; there = gave.there; leaves = gave.leaves }
output_between locations start scan before None none = none

answer_between : (locations : List SegmentLocation) (limit : ℕ) (start : ScanData) (result : Result (Option ColumnData) ScanError) (scan : ScanData) (before after : SourceState) → RunAnswer locations limit start result scan (record before { in_flight = [] }) after → RunAnswer locations limit start result scan before (record after { in_flight = [] })
answer_between locations limit start (Ok output) scan before after answer = output_between locations start scan before output answer
answer_between locations limit start (Err error) scan before after cause = cause_between locations limit start error before after cause

asks_between : (P : ℕ → Type 0) (locations : List SegmentLocation) (before after : SourceState) → AsksOnly P locations (record before { in_flight = [] }) after → AsksOnly P locations before (record after { in_flight = [] })
asks_between P locations before after asks = record { segments = asks.segments; asks = record { apart = asks.asks.apart; located = asks.asks.located; asked = asks.asks.asked }; wanted = asks.wanted }

gives_between : (locations : List SegmentLocation) (limit : ℕ) (start : ScanData) (result : Result (Option ColumnData) ScanError) (scan : ScanData) (before after : SourceState) → RunGives locations limit start result scan (record before { in_flight = [] }) after → RunGives locations limit start result scan before (record after { in_flight = [] })
gives_between locations limit start result scan before after gives = record {
  answer = answer_between locations limit start result scan before after gives.answer;
  left = gives.left;
  asks = asks_between (IsReadByStart start) locations before after gives.asks;
  faults = gives.faults;
  nodes = gives.nodes;
  job = gives.job;
  told = gives.told;
  leaves = gives.leaves;
  wholes = gives.wholes;
  lasts = record { file = gives.lasts.file; faults = gives.lasts.faults; idle = gives.lasts.idle };
}

pub gives_cleared : (locations : List SegmentLocation) (limit : ℕ) (start : ScanData) (result : Result (Option ColumnData) ScanError) (scan : ScanData) (before opened now after : SourceState) → Cleared before opened → RunGives locations limit start result scan opened now → Cleared now after →
    RunGives locations limit start result scan before after
gives_cleared locations limit start result scan before opened now after first gives last =
    subst (RunGives locations limit start result scan before) (sym (cleared_same now after last))
    (gives_between locations limit start result scan before now (subst (λ (s : SourceState). RunGives locations limit start result scan s now) (cleared_same before opened first) gives))

pub finishes : (locations others : List SegmentLocation) (limit : ℕ) (start first scan : ScanData) (finished : Finished) (before opened now cleared after : SourceState) → others ≡ locations → first ≡ start → Cleared before opened → RunGives others limit first finished.output scan opened now → Cleared now cleared → after ≡ cleared →
    LeavesKept scan finished.kept → Finishes locations limit start finished before after
finishes locations others limit start first scan finished before opened now cleared after same one opens gives clears is kept = record {
  scan = scan;
  gives = subst (RunGives locations limit start finished.output scan before) (sym is)
      (gives_cleared locations limit start finished.output scan before opened now cleared opens
      (subst (λ (s : ScanData). RunGives locations limit s finished.output scan opened now) one (subst (λ (ls : List SegmentLocation). RunGives ls limit first finished.output scan opened now) same gives)) clears);
  kept = kept;
  in_flight = ap (λ (s : SourceState). s.in_flight) is ∙ clears.in_flight;
}
