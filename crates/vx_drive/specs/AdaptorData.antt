-- An adaptor as plain data.
use Rattle.std.specs.Prelude.{◌≡◌, ◌≢◌, ℕ, ◌+◌, ◌<◌, ◌≤◌, List, length, take, drop, Option, Some, None}
use Rattle.vx_steps.specs.declared.reads.ReadId.{ReadId}
use Rattle.vx_steps.specs.ReadTable as tables
use Rattle.vx_steps.specs.ReadTableData.{ReadsData, Wanted}
use Rattle.vx_steps.specs.ScanData.{ScanData}
use Rattle.vx_steps.specs.Steps.{work_left}
use Rattle.vx_drive.specs.declared.adaptors.State.{State}
use Rattle.vx_drive.specs.declared.adaptors.State.TheVariants.{Done}
use Rattle.vx_drive.specs.Fetched.{AllLocated, AreDistinctNumbers, segments_in}
use Rattle.vx_base.specs.Columns.{ColumnData}
use Rattle.vx_base.specs.declared.locations.SegmentLocation.{SegmentLocation}

-- the scan inside, how many reads it handed out before the adaptor was made, how many fetches were handed out, and the
-- output that came behind the last batch of them, with the number of its split, until it is handed on
pub record AdaptorData : Type 0 where
  pub scan : ScanData
  pub first : ℕ
  pub asked : ℕ
  pub held : Option (ℕ × ColumnData)
  pub state : State

-- the reads for which a fetch was handed out: fetch n is the n-th read behind the first ones, which are not the adaptor's
abbrev pub reads_of : AdaptorData → List Wanted
reads_of adaptor = take adaptor.asked (drop adaptor.first adaptor.scan.progress.reads.wanted)

abbrev pub read_numbered : ℕ → ReadId
read_numbered number = record { 0 = number }

-- the fetch was handed out, and its bytes did not come
abbrev pub IsOutstanding : AdaptorData → ℕ → Type 0
IsOutstanding adaptor number = (number < adaptor.asked) × tables.IsOutstanding adaptor.scan.progress.reads (read_numbered (adaptor.first + number))

-- some fetch is outstanding
abbrev pub SomeOutstanding : AdaptorData → Type 0
SomeOutstanding adaptor = (number : ℕ) × IsOutstanding adaptor number

-- some read is outstanding that was handed out before the adaptor was made: its bytes come by no fetch
abbrev pub SomeEarlierOutstanding : AdaptorData → Type 0
SomeEarlierOutstanding adaptor = (number : ℕ) × (number < adaptor.first) × tables.IsOutstanding adaptor.scan.progress.reads (read_numbered number)

abbrev pub held_count : Option (ℕ × ColumnData) → ℕ
held_count None = 0
held_count (Some output) = 1

-- how many reads and pieces can follow, at most
abbrev pub work_of : AdaptorData → ℕ
work_of adaptor = work_left adaptor.scan.job adaptor.scan.progress + held_count adaptor.held

-- Each read that the scan handed out behind the first ones was asked for, each is of another segment, and each segment has
-- a location.
pub record AreAskedReads (locations : List SegmentLocation) (first asked : ℕ) (reads : ReadsData) : Type 0 where
  pub all : first + asked ≡ reads.handed
  pub wanted : asked ≤ length (drop first reads.wanted)
  pub apart : AreDistinctNumbers (segments_in (take asked (drop first reads.wanted)))
  pub located : AllLocated locations (segments_in (take asked (drop first reads.wanted)))

-- this is so while the adaptor is not done
abbrev pub IsReady : List SegmentLocation → State → ℕ → ℕ → ReadsData → Type 0
IsReady locations state first asked reads = state ≢ Done → AreAskedReads locations first asked reads
