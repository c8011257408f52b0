-- What a run of a scan of one split gives, and what it asks its source for.
use Rattle.std.specs.Prelude.{◌≡◌, ℕ, ◌≤◌, ◌⊎◌, List, length, Option, Some, None, IfSome, IfErr, MatchResult, Result}
use Rattle.vx_rows.specs.SegmentLeaves.{Bytes, leaves_of}
use Rattle.vx_layout.specs.Rows.{segment_bytes}
use Rattle.vx_plan.specs.Plans.{plan_at}
use Rattle.vx_plan.specs.Refs.{number_of}
use Rattle.vx_plan.specs.Rules.{node_at}
use Rattle.vx_steps.specs.declared.errors.StepError.{StepError}
use Rattle.vx_steps.specs.declared.errors.StepError.TheVariants as step_errors
use Rattle.vx_steps.specs.Given.{handed_by, row_value}
use Rattle.vx_steps.specs.Jobs.{IsReadFor, KeepsColumns, KeepsWholes}
use Rattle.vx_steps.specs.Laws.{IsRowOf}
use Rattle.vx_steps.specs.Rows.{AreOf, rows_of}
use Rattle.vx_steps.specs.ScanData.{ScanData, IsScanOf}
use Rattle.vx_steps.specs.ScanLaws.{IsSplitCause, SplitReads}
use Rattle.vx_steps.specs.Turns.{AreLeavesKept, HasRowCause}
use Rattle.vx_steps.specs.Wholes.{AreThere, HasInsideCause}
use Rattle.vx_drive.specs.declared.adaptor_errors.AdaptorError.{AdaptorError}
use Rattle.vx_drive.specs.declared.adaptor_errors.AdaptorError.TheVariants as errors
use Rattle.vx_drive.specs.declared.errors.ScanError.{ScanError}
use Rattle.vx_drive.specs.declared.errors.ScanError.TheVariants.{Unsupported, NoLocation, ReadFault, Stalled, BadSegment, BadCode, EvalFault, Memory}
use Rattle.vx_drive.specs.Asks.{AsksOnly, Lasts, TellsFaults}
use Rattle.vx_drive.specs.Starts.{split_of}
use Rattle.vx_base.specs.Columns.{ColumnData}
use Rattle.vx_base.specs.Masks.{true_count}
use Rattle.vx_base.specs.Sources.{SourceState, Rose, RoseBy}
use Rattle.vx_base.specs.declared.locations.SegmentLocation.{SegmentLocation}

-- the error of a run whose adaptor refused
abbrev pub scan_error : AdaptorError → ScanError
scan_error (errors.NoLocation segment) = NoLocation segment
scan_error (errors.Step (step_errors.Unsupported list)) = Unsupported list
scan_error (errors.Step (step_errors.BadSegment segment)) = BadSegment segment
scan_error (errors.Step (step_errors.BadCode take row)) = BadCode take row
scan_error (errors.Step (step_errors.EvalFault row)) = EvalFault row
scan_error (errors.Step step_errors.Memory) = Memory
scan_error errors.NotOutstanding = Memory
scan_error errors.Memory = Memory

-- this holds of the bytes of the told file, if the scan is of them when the run begins
abbrev pub WhereScanned : List SegmentLocation → ScanData → SourceState → (Bytes → Type 0) → Type 0
WhereScanned locations start before P =
    (file : List ℕ) → before.file ≡ Some file → IsScanOf start (segment_bytes file locations) → P (segment_bytes file locations)

-- The column has the plan's dtype and its values at the selected rows of the split, in order. The whole values that
-- these rows ask for were made or used, and the leaves that they read are kept.
pub record GivesSplit (locations : List SegmentLocation) (start scan : ScanData) (before : SourceState) (column : ColumnData) : Type 0 where
  pub dtype : column.dtype ≡ (node_at start.nodes start.job.plan).dtype
  pub count : length column.values ≡ true_count (split_of start).mask
  pub right : WhereScanned locations start before (λ bytes.
      AreOf (row_value (leaves_of bytes) (handed_by start.nodes (Some start.job.given)) start.job.offset (plan_at start.nodes start.job.plan)) (rows_of (split_of start).rows.start (split_of start).mask) column.values)
  pub there : AreThere start.nodes start.job.given scan.progress.wholes start.job.plan (split_of start).rows.start (split_of start).mask
  pub leaves : AreLeavesKept start.nodes start.job (split_of start) scan.progress.leaves

-- the column of the split, where one of its rows is selected
abbrev pub GivesOutput : List SegmentLocation → ScanData → ScanData → SourceState → Option ColumnData → Type 0
GivesOutput locations start scan before (Some column) = GivesSplit locations start scan before column
GivesOutput locations start scan before None = true_count (split_of start).mask ≡ 0

-- a selected row of the split has the cause of the refusal
abbrev pub IsStepCause : List SegmentLocation → ScanData → SourceState → StepError → Type 0
IsStepCause locations start before error = WhereScanned locations start before (λ bytes. IsSplitCause start.nodes start.job (split_of start) bytes error)

-- a selected row of it reads a row of the list: the plan alone decides that
abbrev pub IsListCause : ScanData → ℕ → Type 0
IsListCause start list = SplitReads (IsRowOf list) start.nodes start.job (split_of start)

-- and where the cause is an expression, it visits the row that is named
abbrev pub IsFaultCause : List SegmentLocation → ScanData → SourceState → ℕ → Type 0
IsFaultCause locations start before row =
    WhereScanned locations start before (λ bytes. HasRowCause start.nodes start.job (split_of start) bytes (step_errors.EvalFault row))

-- a selected row of the split reads the segment, by a leaf of which no column was kept
abbrev pub IsReadByStart : ScanData → ℕ → Type 0
IsReadByStart start segment = IsReadFor start.nodes start.job start.progress.leaves segment

-- why a run of a scan has no output
abbrev pub RunCause : List SegmentLocation → ℕ → ScanData → ScanError → SourceState → SourceState → Type 0
RunCause locations limit start (Unsupported list) before after = IsListCause start (number_of list)
RunCause locations limit start (NoLocation segment) before after = IsReadByStart start segment × (length locations ≤ segment)
RunCause locations limit start ReadFault before after = Rose before.faults after.faults
RunCause locations limit start Stalled before after = RoseBy limit before.idle after.idle
RunCause locations limit start (BadSegment segment) before after = IsStepCause locations start before (step_errors.BadSegment segment)
RunCause locations limit start (BadCode take row) before after = IsStepCause locations start before (step_errors.BadCode take row)
RunCause locations limit start (EvalFault row) before after = IsFaultCause locations start before row
RunCause locations limit start Memory before after = Unit {0}
RunCause locations limit start error before after = ⊥

-- the fault of rows that an error tells of: a code that is none of the values, or an expression
abbrev pub row_fault : ScanError → Option StepError
row_fault (BadCode take row) = Some (step_errors.BadCode take row)
row_fault (EvalFault row) = Some (step_errors.EvalFault row)
row_fault error = None

-- the whole values that the split's selected rows ask for were made or used, or the fault is one of theirs
abbrev pub LeavesFault : List SegmentLocation → ScanData → ScanData → SourceState → StepError → Type 0
LeavesFault locations start scan before fault =
    AreThere start.nodes start.job.given scan.progress.wholes start.job.plan (split_of start).rows.start (split_of start).mask
    ⊎ WhereScanned locations start before (λ bytes. HasInsideCause (leaves_of bytes) (handed_by start.nodes (Some start.job.given)) start.job.offset (plan_at start.nodes start.job.plan) (split_of start).rows.start (split_of start).mask fault)

-- What a run comes to that gives this, or fails.
pub record EndsRun {X : Type 0} (Gives : X → Type 0) (locations : List SegmentLocation) (limit : ℕ) (start : ScanData) (result : Result X ScanError) (scan : ScanData) (before after : SourceState) : Type 0 where
  pub answer : MatchResult result Gives (λ error. RunCause locations limit start error before after)
  -- what a fault of rows leaves of whole values
  pub left : IfErr result (λ error. IfSome (row_fault error) (LeavesFault locations start scan before))
  pub asks : AsksOnly (IsReadByStart start) locations before after
  pub faults : TellsFaults result before after
  -- the scan is still of the told file, and keeps the columns that it had
  pub nodes : scan.nodes ≡ start.nodes
  pub job : scan.job ≡ start.job
  pub told : WhereScanned locations start before (IsScanOf scan)
  pub leaves : KeepsColumns start.progress.leaves scan.progress.leaves
  pub wholes : KeepsWholes start.nodes start.job start.progress.wholes scan.progress.wholes
  pub lasts : Lasts before after

abbrev pub RunAnswer : List SegmentLocation → ℕ → ScanData → Result (Option ColumnData) ScanError → ScanData → SourceState → SourceState → Type 0
RunAnswer locations limit start result scan before after = MatchResult result (GivesOutput locations start scan before) (λ error. RunCause locations limit start error before after)

-- it gives the column of the split
abbrev pub RunGives : List SegmentLocation → ℕ → ScanData → Result (Option ColumnData) ScanError → ScanData → SourceState → SourceState → Type 0
RunGives locations limit start result scan before after = EndsRun (GivesOutput locations start scan before) locations limit start result scan before after
