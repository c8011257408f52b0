-- Reads that follow one another, and the turn behind them.
use Rattle.std.specs.Prelude.{◌≡◌, ◌≢◌, ℕ, ◌+◌, ◌-◌, ◌^◌, ◌<◌, ◌≤◌, ◌⊎◌, true, false, List, [], ◌++◌, length, map, take, drop, Option, Some, None, Result, Ok, Err}
use Rattle.std.specs.Global.{Vec}
use Rattle.std.specs.List.{All}
use Rattle.vx_steps.specs.declared.progress.Turn.{Turn}
use Rattle.vx_steps.specs.declared.progress.Turn.TheVariants as turns
use Rattle.vx_steps.specs.ReadTableData.{ReadsData, Wanted}
use Rattle.vx_steps.specs.ScanData.{ScanData}
use Rattle.vx_steps.specs.Steps.{GoesOn, IsHandedOut, TakesTurn, work_left}
use Rattle.vx_steps.specs.Wants.{IsAsked}
use Rattle.vx_io.specs.declared.requests.IoRequest.{IoRequest}
use Rattle.vx_drive.specs.declared.adaptor_errors.AdaptorError.{AdaptorError}
use Rattle.vx_drive.specs.declared.adaptor_errors.AdaptorError.TheVariants.{NoLocation, Step, NotOutstanding, Memory}
use Rattle.vx_drive.specs.declared.adaptors.AdaptorStep.{AdaptorStep}
use Rattle.vx_drive.specs.declared.adaptors.AdaptorStep.TheVariants.{Yield, NeedsIo, Piece}
use Rattle.vx_drive.specs.declared.adaptors.State.{State}
use Rattle.vx_drive.specs.declared.adaptors.State.TheVariants.{NeedsCompute, Waiting, Done}
use Rattle.vx_drive.specs.AdaptorData.{AreAskedReads}
use Rattle.vx_drive.specs.Computes.{RefusesStep, StopCause}
use Rattle.vx_drive.specs.Continues.{KeepsScan, Continues, splits_left}
use Rattle.vx_drive.specs.Fetched.{AllLocated, fetches_from, unread}
use Rattle.vx_base.specs.Columns.{ColumnData}
use Rattle.vx_base.specs.declared.locations.SegmentLocation.{SegmentLocation}

-- ---- the reads

abbrev pub work_in : ScanData → ℕ
work_in scan = work_left scan.job scan.progress

-- how many reads a scan handed out behind the first ones
abbrev pub count_behind : ℕ → ReadsData → ℕ
count_behind first reads = reads.handed - first

-- and which, in order
abbrev pub reads_behind : ℕ → ReadsData → List Wanted
reads_behind first reads = take (count_behind first reads) (drop first reads.wanted)

-- the scan had refused no step, and some split was left
abbrev pub IsLive : ScanData → Type 0
IsLive scan = (scan.refused ≡ false) × (splits_left scan ≢ [])

-- The scan handed out reads of these segments, of which it handed out none before, and no output; and the batch is their
-- fetches, numbered by the reads behind the first ones.
pub record Batched (locations : List SegmentLocation) (first : ℕ) (batch : List IoRequest) (old new : ScanData) : Type 0 where
  pub segments : List ℕ
  pub batch_is : batch ≡ fetches_from locations (count_behind first old.progress.reads) segments
  pub located : AllLocated locations segments
  pub fresh : All (λ segment. IsHandedOut old.progress.reads segment → ⊥) segments
  pub handed : new.progress.reads.handed ≡ old.progress.reads.handed + length segments
  pub fits : old.progress.reads.handed < 2 ^ 64 → new.progress.reads.handed < 2 ^ 64
  pub reads : reads_behind first new.progress.reads ≡ reads_behind first old.progress.reads ++ map unread segments
  pub asked : AreAskedReads locations first (count_behind first new.progress.reads) new.progress.reads
  pub stand : All (IsAsked new.progress.reads.wanted) segments
  pub left : splits_left new ≡ splits_left old
  pub fewer : work_in new + length segments ≤ work_in old
  pub scan : Continues old new
  pub none : segments ≡ [] → new ≡ old
  pub live : 0 < length segments → IsLive new

-- ---- the turn behind them

-- the turn wants no read
abbrev pub IsNoRead : Turn → Type 0
IsNoRead (turns.Read request) = ⊥
IsNoRead (turns.Output number column) = Unit {0}
IsNoRead turns.Waiting = Unit {0}
IsNoRead turns.Done = Unit {0}

-- The scan takes its turn; one that refused a step before is done.
pub record GivesTurn (turn : Turn) (old new : ScanData) : Type 0 where
  pub scan : Continues old new
  pub takes : ((old.refused ≡ true) × (turn ≡ turns.Done) × (new ≡ old)) ⊎ ((old.refused ≡ false) × TakesTurn old.nodes old.job old.progress new.progress turn)
  pub fewer : GoesOn turn → work_in new < work_in old

abbrev pub StepGives : Result Turn AdaptorError → ScanData → ScanData → Type 0
StepGives (Ok turn) old new = GivesTurn turn old new
StepGives (Err (Step error)) old new = KeepsScan old new × RefusesStep error old new
StepGives (Err Memory) old new = KeepsScan old new
StepGives (Err (NoLocation segment)) old new = ⊥
StepGives (Err NotOutstanding) old new = ⊥

abbrev pub BatchGives : List SegmentLocation → ℕ → Result Turn AdaptorError → List IoRequest → ScanData → ScanData → Type 0
BatchGives locations first (Ok turn) batch old new = (middle : ScanData) × Batched locations first batch old middle × GivesTurn turn middle new × IsNoRead turn
BatchGives locations first (Err error) batch old new = KeepsScan old new × StopCause locations error old new

-- ---- the step that they make

-- the step is the batch where there is one, and else the other step, which leaves this output held and this state
abbrev pub BatchOr : Vec IoRequest → AdaptorStep → Option (ℕ × ColumnData) → AdaptorStep → Option (ℕ × ColumnData) → State → State → Type 0
BatchOr batch step behind other held state idle =
    ((batch.items ≡ []) × (step ≡ other) × (held ≡ None) × (state ≡ idle))
    ⊎ ((0 < length batch.items) × (step ≡ NeedsIo batch) × (held ≡ behind) × (state ≡ NeedsCompute))

abbrev pub StepOf : Vec IoRequest → Turn → AdaptorStep → Option (ℕ × ColumnData) → State → Type 0
StepOf batch (turns.Read request) step held state = ⊥
StepOf batch (turns.Output number column) step held state = BatchOr batch step (Some (number, column)) (Piece column) held state NeedsCompute
StepOf batch turns.Waiting step held state = BatchOr batch step None Yield held state Waiting
StepOf batch turns.Done step held state = BatchOr batch step None Yield held state Done
