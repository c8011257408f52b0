-- What the calls on an adaptor do.
use Rattle.std.specs.Prelude.{◌≡◌, ◌≢◌, ℕ, ◌+◌, ◌<◌, ◌≤◌, ◌⊎◌, true, List, [], ◌++◌, length, map, slice_set, Some, None, Result, Ok, Err}
use Rattle.std.specs.List.{All}
use Rattle.vx_steps.specs.declared.errors.StepError.{StepError}
use Rattle.vx_steps.specs.declared.errors.StepError.TheVariants as steps
use Rattle.vx_steps.specs.Jobs.{CanStart}
use Rattle.vx_steps.specs.ReadTable.{StandsAt}
use Rattle.vx_steps.specs.ScanData.{ScanData, TakesBytes}
use Rattle.vx_steps.specs.Steps.{AreHandedOut, IsHandedOut, IsWaiting, RefusesSplit}
use Rattle.vx_io.specs.declared.requests.IoRequest.{IoRequest}
use Rattle.vx_drive.specs.declared.adaptor_errors.AdaptorError.{AdaptorError}
use Rattle.vx_drive.specs.declared.adaptor_errors.AdaptorError.TheVariants.{NoLocation, Step, NotOutstanding, Memory}
use Rattle.vx_drive.specs.declared.adaptors.AdaptorStep.{AdaptorStep}
use Rattle.vx_drive.specs.declared.adaptors.AdaptorStep.TheVariants.{Yield, NeedsIo, Piece}
use Rattle.vx_drive.specs.declared.adaptors.State.{State}
use Rattle.vx_drive.specs.declared.adaptors.State.TheVariants.{NeedsCompute, Waiting, Done}
use Rattle.vx_drive.specs.AdaptorData.{AdaptorData, reads_of, read_numbered, work_of, IsOutstanding, SomeOutstanding, SomeEarlierOutstanding}
use Rattle.vx_drive.specs.Continues.{KeepsScan, Continues, ComesOut, MayBeRead, splits_left}
use Rattle.vx_drive.specs.Fetched.{AllLocated, AreDistinctNumbers, fetches_from, unread, delivered, segments_in}
use Rattle.vx_base.specs.Columns.{ColumnData}
use Rattle.vx_base.specs.declared.locations.SegmentLocation.{SegmentLocation}

-- ---- compute

-- The scan's next output came behind the reads, and is held; or none came, and no split is left that was not before.
abbrev pub HoldsNext : AdaptorData → AdaptorData → Type 0
HoldsNext old new =
    ((new.held ≡ None) × (splits_left new.scan ≡ splits_left old.scan))
    ⊎ ((number : ℕ) × (column : ColumnData) × (new.held ≡ Some (number, column)) × ComesOut number column old.scan new.scan)

-- No read is left to be handed out before bytes come: for each leaf that a selected row of an active split reads, and of
-- which no column is kept, one of its segment was.
pub record AwaitsBytes (scan : ScanData) : Type 0 where
  pub none_to_start : CanStart scan.job scan.progress → ⊥
  pub all_handed : scan.progress.reads.handed ≡ length scan.progress.reads.wanted
  pub are_handed : AreHandedOut scan.nodes scan.job scan.progress.leaves scan.progress

-- Reads that followed one another, at least one, each of a segment of which the scan handed out no read before and which has
-- a location, up to an output or until the scan waits. The batch is their fetches, in their order.
pub record Batches (locations : List SegmentLocation) (batch : List IoRequest) (old new : AdaptorData) : Type 0 where
  pub segments : List ℕ
  pub some : 0 < length segments
  pub batch_is : batch ≡ fetches_from locations old.asked segments
  pub first : new.first ≡ old.first
  pub asked : new.asked ≡ old.asked + length segments
  pub reads : reads_of new ≡ reads_of old ++ map unread segments
  pub apart : AreDistinctNumbers (segments_in (reads_of new))
  pub fresh : All (λ segment. IsHandedOut old.scan.progress.reads segment → ⊥) segments
  pub located : AllLocated locations segments
  pub wanted : All (MayBeRead old.scan) segments
  pub scan : Continues old.scan new.scan
  pub held : old.held ≡ None
  pub holds : HoldsNext old new
  pub behind : new.held ≡ None → AwaitsBytes new.scan
  pub state : new.state ≡ NeedsCompute
  pub fewer : work_of new + length segments ≤ work_of old

-- no read was asked for, and nothing came for one
pub record AsksNothing (old new : AdaptorData) : Type 0 where
  pub first : new.first ≡ old.first
  pub asked : new.asked ≡ old.asked
  pub reads : reads_of new ≡ reads_of old

-- the output that was held, or else the scan's next one
abbrev pub IsNextOutput : ℕ → ColumnData → AdaptorData → AdaptorData → Type 0
IsNextOutput number column old new =
    ((old.held ≡ Some (number, column)) × (new.scan ≡ old.scan))
    ⊎ ((old.held ≡ None) × ComesOut number column old.scan new.scan)

-- The scan's next output is handed on.
pub record HandsOn (column : ColumnData) (old new : AdaptorData) : Type 0 where
  pub number : ℕ
  pub output : IsNextOutput number column old new
  pub scan : Continues old.scan new.scan
  pub asks : AsksNothing old new
  pub held : new.held ≡ None
  pub state : new.state ≡ NeedsCompute
  pub fewer : work_of new < work_of old

-- the scan waits for the bytes of an outstanding fetch, or of a read that was handed out before the adaptor was made; or no
-- split is left, or the scan had refused a step when it was handed in
abbrev pub WhyYields : AdaptorData → AdaptorData → Type 0
WhyYields old new =
    ((new.state ≡ Waiting) × (SomeOutstanding new ⊎ SomeEarlierOutstanding new))
    ⊎ ((new.state ≡ Done) × ((splits_left old.scan ≡ []) ⊎ (old.scan.refused ≡ true)))

-- The scan waits, or it is done.
pub record Yields (old new : AdaptorData) : Type 0 where
  pub why : WhyYields old new
  pub waits : new.state ≡ Waiting → IsWaiting old.scan.nodes old.scan.job old.scan.progress new.scan.progress
  pub scan : Continues old.scan new.scan
  pub left : splits_left new.scan ≡ splits_left old.scan
  pub asks : AsksNothing old new
  pub held : old.held ≡ None
  pub none : new.held ≡ None
  pub work : work_of new ≡ work_of old

-- The scan handed out a read of the segment, which has no location.
pub record LacksLocation (locations : List SegmentLocation) (segment : ℕ) (old new : ScanData) : Type 0 where
  pub lacks : length locations ≤ segment
  pub place : ℕ
  pub from : old.progress.reads.handed ≤ place
  pub handed : place < new.progress.reads.handed
  pub read : StandsAt new.progress.reads.wanted segment place
  pub wanted : MayBeRead old segment
  pub scan : Continues old new

-- The scan refused a step, and not for want of memory.
pub record RefusesStep (error : StepError) (old new : ScanData) : Type 0 where
  pub not_memory : error ≢ steps.Memory
  pub refused : new.refused ≡ true
  pub cause : RefusesSplit old.nodes old.job old.progress new.progress error

abbrev pub StopCause : List SegmentLocation → AdaptorError → ScanData → ScanData → Type 0
StopCause locations (NoLocation segment) old new = LacksLocation locations segment old new
StopCause locations (Step error) old new = RefusesStep error old new
StopCause locations NotOutstanding old new = ⊥
StopCause locations Memory old new = Unit {0}

-- It refused, and is done. The scan may have handed out reads for which no fetch will be.
pub record Stops (locations : List SegmentLocation) (error : AdaptorError) (old new : AdaptorData) : Type 0 where
  pub cause : StopCause locations error old.scan new.scan
  pub scan : KeepsScan old.scan new.scan
  pub asks : AsksNothing old new
  pub held : old.held ≡ None
  pub none : new.held ≡ None
  pub state : new.state ≡ Done

abbrev pub Computes : List SegmentLocation → Result AdaptorStep AdaptorError → AdaptorData → AdaptorData → Type 0
Computes locations (Ok (NeedsIo batch)) old new = Batches locations batch.items old new
Computes locations (Ok (Piece column)) old new = HandsOn column old new
Computes locations (Ok Yield) old new = Yields old new
Computes locations (Err error) old new = Stops locations error old new

-- an adaptor that is done does nothing
abbrev pub ComputeGives : List SegmentLocation → Result AdaptorStep AdaptorError → AdaptorData → AdaptorData → Type 0
ComputeGives locations result old new = ((old.state ≡ Done) × (result ≡ Ok Yield) × (new ≡ old)) ⊎ ((old.state ≢ Done) × Computes locations result old new)

-- ---- results

abbrev pub after_result : State → State
after_result Waiting = NeedsCompute
after_result NeedsCompute = NeedsCompute
after_result Done = Done

-- The bytes came to the read that the fetch was made for.
pub record TakesResult (number : ℕ) (bytes : List ℕ) (old new : AdaptorData) : Type 0 where
  pub outstanding : IsOutstanding old number
  pub takes : TakesBytes (read_numbered (old.first + number)) bytes old.scan new.scan
  pub first : new.first ≡ old.first
  pub asked : new.asked ≡ old.asked
  pub reads : reads_of new ≡ slice_set (reads_of old) number (delivered takes.delivers.segment bytes)
  pub held : new.held ≡ old.held
  pub state : new.state ≡ after_result old.state
  pub work : work_of new ≡ work_of old

abbrev pub ResultGives : Result (Unit {0}) AdaptorError → ℕ → List ℕ → AdaptorData → AdaptorData → Type 0
ResultGives (Ok done) number bytes old new = TakesResult number bytes old new
ResultGives (Err NotOutstanding) number bytes old new = (¬ (IsOutstanding old number)) × (new ≡ old)
ResultGives (Err (NoLocation segment)) number bytes old new = ⊥
ResultGives (Err (Step error)) number bytes old new = ⊥
ResultGives (Err Memory) number bytes old new = ⊥
