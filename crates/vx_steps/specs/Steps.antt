-- What a step of a scan comes to.
use Rattle.std.specs.Prelude.{◌≡◌, ℕ, ◌+◌, ◌-◌, ◌^◌, ◌<◌, ◌≤◌, ◌⊎◌, true, List, [], ◌∷◌, length, slice_range, slice_set, Option, Some, None, Result, Ok}
use Rattle.std.specs.List.{slice_get, remove, sum_by}
use Rattle.vx_base.specs.Columns.{ColumnData}
use Rattle.vx_picking.specs.Rows.{SelectsSome, SomeRow}
use Rattle.vx_plan.specs.Nodes.{Node}
use Rattle.vx_rows.specs.SegmentLeaves.{Bytes}
use Rattle.vx_steps.specs.declared.errors.StepError.{StepError}
use Rattle.vx_steps.specs.declared.errors.StepError.TheVariants.{BadSegment, Memory}
use Rattle.vx_steps.specs.declared.jobs.Job.{Job}
use Rattle.vx_steps.specs.declared.leaf_reads.LeafRead.{LeafRead}
use Rattle.vx_steps.specs.declared.progress.Turn.{Turn}
use Rattle.vx_steps.specs.declared.progress.Turn.TheVariants.{Read, Output, Waiting, Done}
use Rattle.vx_steps.specs.declared.reads.ReadRequest.{ReadRequest}
use Rattle.vx_steps.specs.declared.splits.Split.{Split}
use Rattle.vx_steps.specs.declared.wholes.Wholes.{Wholes}
use Rattle.vx_steps.specs.Computed.{UnlessList}
use Rattle.vx_steps.specs.Delivered.{IsTornNeed}
use Rattle.vx_steps.specs.Jobs.{active_of, CanStart, IsTold}
use Rattle.vx_steps.specs.Kept.{kept_at, IsKept}
use Rattle.vx_steps.specs.KeptData.{Kept}
use Rattle.vx_steps.specs.Needs.{Among}
use Rattle.vx_steps.specs.OpenSegments.{IsLeafOver}
use Rattle.vx_steps.specs.ReadTable.{IsGone, StandsAt}
use Rattle.vx_steps.specs.ReadTableData.{Wanted, ReadsData}
use Rattle.vx_steps.specs.Pieces.{piece_of, IsNextRow, IsStillRead, ReadsDirectly, ReadsInside}
use Rattle.vx_steps.specs.Standings.{left_of, SplitLeft, Standing}
use Rattle.vx_steps.specs.Turns.{AreLeavesKept, FailsInWholes, HasRowCause, IsOutput, LeavesWholes, ReadsFor}
use Rattle.vx_steps.specs.Wholes.{AreThere}

-- the column of a split, by whatever lies outside of which the scan is
abbrev pub IsSplitOutput : List Node → Job → Standing → Wholes → Split → ColumnData → Type 0
IsSplitOutput nodes job old after split column = IsOutput nodes job split old.reads.wanted old.leaves old.wholes.made after column

-- a selected row of the split reads a leaf of the segment whose delivered bytes spell no rows of it
abbrev pub ReadsTorn : List Node → Job → List Wanted → Split → ℕ → Type 0
ReadsTorn nodes job wanted split segment = (read : LeafRead) × ReadsFor nodes job split read × (read.segment ≡ segment) × IsTornNeed nodes wanted read

-- the split reads a torn leaf, or a selected row of it has the visit that the refusal names
abbrev pub HasCauseIn : List Node → Job → List Wanted → Split → Bytes → StepError → Type 0
HasCauseIn nodes job wanted split outside (BadSegment segment) = ReadsTorn nodes job wanted split segment
HasCauseIn nodes job wanted split outside error = HasRowCause nodes job split outside error

-- The refusal has its cause in what the split's selected rows visit, by whatever lies outside of which the scan is; that
-- a list is read, whatever lies outside.
abbrev pub HasSplitCause : List Node → Job → Standing → List Wanted → Split → StepError → Type 0
HasSplitCause nodes job old wanted split error = (outside : Bytes) → UnlessList error (IsTold nodes job old outside) → HasCauseIn nodes job wanted split outside error

-- what the refusal leaves of whole values
abbrev pub LeavesSplit : List Node → Job → Standing → Wholes → Split → StepError → Type 0
LeavesSplit nodes job old after split error = LeavesWholes nodes job split old.reads.wanted old.leaves old.wholes.made after error

-- The leaves that the first rows of the split read are kept, up to a place, and one of these rows has the fault, or whole
-- values do that the split asks for.
abbrev pub LeavesFirstRows : List Node → Job → Standing → Standing → Split → StepError → Type 0
LeavesFirstRows nodes job old new split error =
    (to : ℕ) × AreLeavesKept nodes job (piece_of split 0 to) new.leaves × (HasSplitCause nodes job old new.reads.wanted (piece_of split 0 to) error ⊎ FailsInWholes nodes job split old.reads.wanted old.leaves old.wholes.made error)

-- what the refusal leaves of leaves, where it names a fault of rows
abbrev pub LeavesRows : List Node → Job → Standing → Standing → Split → StepError → Type 0
LeavesRows nodes job old new split (BadSegment segment) = Unit {0}
LeavesRows nodes job old new split Memory = Unit {0}
LeavesRows nodes job old new split error = LeavesFirstRows nodes job old new split error

-- a split that is active has the cause of the refusal
pub record RefusesSplit (nodes : List Node) (job : Job) (old new : Standing) (error : StepError) : Type 0 where
  pub number : ℕ
  pub active : Among number (active_of new)
  pub split : Split
  pub at : slice_get job.splits.items number ≡ Some split
  pub cause : HasSplitCause nodes job old new.reads.wanted split error
  pub left : LeavesSplit nodes job old new.wholes split error
  pub leaves : LeavesRows nodes job old new split error

-- there is no memory left, or an active split has the cause of the refusal
abbrev pub IsStepRefusal : List Node → Job → Standing → Standing → StepError → Type 0
IsStepRefusal nodes job old new error = (error ≡ Memory) ⊎ RefusesSplit nodes job old new error

-- the segment stands in the list, and its bytes did not come
abbrev pub IsMissing : List Wanted → ℕ → Type 0
IsMissing wanted segment = (place : ℕ) × (slice_get wanted place ≡ Some (record { segment = segment; bytes = None }))

-- no column is kept of the leaf, and the bytes of its segment did not come
abbrev pub IsMissed : List Kept → List Wanted → LeafRead → Type 0
IsMissed leaves wanted read = (kept_at leaves read.leaf ≡ None) × IsMissing wanted read.segment

-- the first selected row of the split that was not given reads the leaf, and not for whole values
abbrev pub FirstReads : List Node → Job → Split → ℕ → LeafRead → Type 0
FirstReads nodes job split given read = (place : ℕ) × IsNextRow split.mask given place × (slice_get split.mask place ≡ Some true) × ReadsDirectly nodes job.given job.plan (split.rows.start + place) read

-- The first selected row of the split that was not given reads a leaf that is missed, or the whole values do that its
-- selected rows ask for.
abbrev pub IsHeldUp : List Node → Job → List Kept → List Wanted → Split → ℕ → Type 0
IsHeldUp nodes job leaves wanted split given = (read : LeafRead) × IsMissed leaves wanted read × (FirstReads nodes job split given read ⊎ SomeRow (λ row. ReadsInside nodes job.given job.plan row read) split.rows.start split.mask)

-- a split that was started is held up
abbrev pub IsHeldUpAt : List Node → Job → List Kept → List Wanted → SplitLeft → Type 0
IsHeldUpAt nodes job leaves wanted s = (split : Split) × (slice_get job.splits.items s.number ≡ Some split) × IsHeldUp nodes job leaves wanted split s.given

-- Splits are left, and the next read is handed out: its number is the count of the reads before it, and none of them
-- was of its segment.
pub record HandsRead (job : Job) (old new : Standing) (request : ReadRequest) : Type 0 where
  pub number : request.id.0 ≡ old.reads.handed
  pub handed : new.reads.handed ≡ old.reads.handed + 1
  pub bounded : new.reads.handed < 2 ^ 64
  pub segment : slice_get new.reads.wanted request.id.0 ≡ Some (record { segment = request.segment_id; bytes = None })
  pub first : (place : ℕ) → StandsAt new.reads.wanted request.segment_id place → place ≡ request.id.0
  pub some_left : left_of job old ≡ [] → ⊥
  pub left : left_of job new ≡ left_of job old

-- The split at the place is left with the rows behind those up to a place, and is left no more where there are none. The
-- others stay as they are.
abbrev pub IsLeftAt : List SplitLeft → List SplitLeft → ℕ → ℕ → ℕ → ℕ → Type 0
IsLeftAt old new place number to rows = ((to < rows) × (new ≡ slice_set old place (record { number = number; given = to }))) ⊎ ((to ≡ rows) × (new ≡ remove old place))

-- Rows of a split that was left are given: those from the first that was not given on, up to a selected one that is left or to
-- the last, with a selected one among them. The whole values that the split asks for are there, and the leaves that these rows
-- read are kept.
pub record GivesOutput (nodes : List Node) (job : Job) (old new : Standing) (number : ℕ) (column : ColumnData) : Type 0 where
  pub place : ℕ
  pub from : ℕ
  pub to : ℕ
  pub at : slice_get (left_of job old) place ≡ Some (record { number = number; given = from })
  pub split : Split
  pub split_at : slice_get job.splits.items number ≡ Some split
  pub left : IsLeftAt (left_of job old) (left_of job new) place number to (length split.mask)
  pub within : to ≤ length split.mask
  pub some : SelectsSome (slice_range split.mask from to)
  pub rest : to < length split.mask → slice_get split.mask to ≡ Some true
  pub output : IsSplitOutput nodes job old new.wholes (piece_of split from to) column
  pub there : AreThere nodes job.given new.wholes job.plan split.rows.start split.mask
  pub leaves : AreLeavesKept nodes job (piece_of split from to) new.leaves
  pub handed : new.reads.handed ≡ old.reads.handed

-- a read of the segment was handed out
abbrev pub IsHandedOut : ReadsData → ℕ → Type 0
IsHandedOut reads segment = (place : ℕ) × (place < reads.handed) × StandsAt reads.wanted segment place

-- For each leaf that a selected row of an active split reads, and of which no column is kept, a read of its segment was
-- handed out.
abbrev pub AreHandedOut : List Node → Job → List Kept → Standing → Type 0
AreHandedOut nodes job leaves progress =
    (number : ℕ) (split : Split) (read : LeafRead) → Among number (active_of progress) → slice_get job.splits.items number ≡ Some split → ReadsFor nodes job split read → kept_at leaves read.leaf ≡ None → IsHandedOut progress.reads read.segment

-- Nothing can be done: no split can be started, all that the active splits read was handed out, and some split is
-- active, each for want of a segment that did not come.
pub record IsWaiting (nodes : List Node) (job : Job) (old new : Standing) : Type 0 where
  pub left : left_of job new ≡ left_of job old
  pub handed : new.reads.handed ≡ old.reads.handed
  pub none_to_start : CanStart job new → ⊥
  pub are_handed : AreHandedOut nodes job old.leaves new
  pub all_handed : new.reads.handed ≡ length new.reads.wanted
  pub some : length new.started ≡ 0 → ⊥
  pub held : (s : SplitLeft) → Among s new.started → IsHeldUpAt nodes job old.leaves new.reads.wanted s

-- No split is left.
pub record IsDone (job : Job) (old new : Standing) : Type 0 where
  pub none_left : left_of job old ≡ []
  pub left : left_of job new ≡ left_of job old
  pub handed : new.reads.handed ≡ old.reads.handed

abbrev pub TakesTurn : List Node → Job → Standing → Standing → Turn → Type 0
TakesTurn nodes job old new (Read request) = HandsRead job old new request
TakesTurn nodes job old new (Output number column) = GivesOutput nodes job old new number column
TakesTurn nodes job old new Waiting = IsWaiting nodes job old new
TakesTurn nodes job old new Done = IsDone job old new

-- the splits that were active in a turn: those that still are, and that of which it gives rows
abbrev pub active_in : Result Turn StepError → Standing → List ℕ
active_in (Ok (Output number column)) new = number ∷ active_of new
active_in result new = active_of new

-- the same where a column was given or not
abbrev pub tried_in : Option (ℕ × ColumnData) → Standing → List ℕ
tried_in (Some given) new = given.0 ∷ active_of new
tried_in None new = active_of new

-- All active splits were tried, and each is held up.
pub record HoldsAll (nodes : List Node) (job : Job) (old new : Standing) : Type 0 where
  pub next : new.next ≡ old.next
  pub started : new.started ≡ old.started
  pub held : (s : SplitLeft) → Among s new.started → IsHeldUpAt nodes job old.leaves new.reads.wanted s

-- a selected row that is left reads a leaf over the segment
abbrev pub IsReadByRest : List Node → Job → Standing → ℕ → Type 0
IsReadByRest nodes job standing segment = (s : SplitLeft) × Among s (left_of job standing) × ((split : Split) × (slice_get job.splits.items s.number ≡ Some split) × IsStillRead nodes job split s.given segment)

-- Where the bytes of a segment are gone from memory of which a selected row that is left reads a leaf, the leaf's column was kept.
abbrev pub ServesRest : List Node → Job → Standing → Type 0
ServesRest nodes job standing =
    (s : SplitLeft) (split : Split) (read : LeafRead) → Among s (left_of job standing) → slice_get job.splits.items s.number ≡ Some split → ReadsFor nodes job (piece_of split s.given (length split.mask)) read → IsGone standing.reads.stored read.segment → IsKept standing.leaves read.leaf

-- the bytes of the segment came, or the column of a leaf over it was kept
abbrev pub HasCame : List Node → List Wanted → List Kept → ℕ → Type 0
HasCame nodes wanted leaves segment = ((place : ℕ) × (bytes : List ℕ) × (slice_get wanted place ≡ Some (record { segment = segment; bytes = Some bytes }))) ⊎ ((leaf : ℕ) × IsLeafOver nodes segment leaf × IsKept leaves leaf)

-- ---- a scan ends

-- the turn is a read or an output
abbrev pub GoesOn : Turn → Type 0
GoesOn (Read request) = Unit {0}
GoesOn (Output number column) = Unit {0}
GoesOn Waiting = ⊥
GoesOn Done = ⊥

-- how many rows a split has
abbrev pub row_count : Option Split → ℕ
row_count None = 0
row_count (Some split) = length split.mask

-- how many of its rows are left
abbrev pub rows_left : List Split → SplitLeft → ℕ
rows_left splits s = row_count (slice_get splits s.number) - s.given

-- how many reads and outputs can follow, at most
abbrev pub work_left : Job → Standing → ℕ
work_left job standing = (2 ^ 64 - standing.reads.handed) + sum_by (rows_left job.splits.items) (left_of job standing)
