-- What the steps of a scan keep and add.
use Rattle.std.specs.Prelude.{◌≡◌, ℕ, ◌<◌, ◌⊎◌, ◌≤◌, max, List, [], length, map, Some, None}
use Rattle.std.specs.List.{slice_get}
use Rattle.vx_base.specs.Columns.{ColumnData}
use Rattle.vx_plan.specs.Nodes.{Node}
use Rattle.vx_rows.specs.SegmentLeaves.{Bytes}
use Rattle.vx_steps.specs.declared.jobs.Job.{Job}
use Rattle.vx_steps.specs.declared.leaf_reads.LeafRead.{LeafRead}
use Rattle.vx_steps.specs.declared.splits.Split.{Split}
use Rattle.vx_steps.specs.declared.wholes.Wholes.{Wholes}
use Rattle.vx_steps.specs.Delivered.{IsOf}
use Rattle.vx_steps.specs.KeptData.{Kept}
use Rattle.vx_steps.specs.Kept.{kept_at}
use Rattle.vx_steps.specs.Needs.{Among, AreAmong}
use Rattle.vx_steps.specs.Standings.{left_of, SplitLeft, Standing}
use Rattle.vx_steps.specs.Turns.{ReadsFor}
use Rattle.vx_steps.specs.Wants.{Grows, IsAsked}
use Rattle.vx_steps.specs.Wholes.{AddsOnly, Asks}

-- the number of a split that is left
abbrev pub number_left : SplitLeft → ℕ
number_left left = left.number

-- the numbers of the splits that were started and are left
abbrev pub active_of : Standing → List ℕ
active_of standing = map number_left standing.started

-- no split was started, no segment is wanted, and no value that was handed in was used
pub record IsUnstarted (progress : Standing) : Type 0 where
  pub next : progress.next ≡ 0
  pub started : progress.started ≡ []
  pub wanted : progress.reads.wanted ≡ []
  pub used : progress.wholes.used ≡ []

-- What the scan holds is so outside.
abbrev pub IsTold : List Node → Job → Standing → Bytes → Type 0
IsTold nodes job progress outside = IsOf nodes job.offset progress.reads.wanted progress.leaves progress.wholes.made outside

-- what was so outside still is
abbrev pub KeepsTold : List Node → Job → Standing → Standing → Type 0
KeepsTold nodes job old new = (outside : Bytes) → IsTold nodes job old outside → IsTold nodes job new outside

-- a selected row of a split asks for the whole values of the number
pub record IsAskedFor (nodes : List Node) (job : Job) (n : ℕ) : Type 0 where
  pub number : ℕ
  pub split : Split
  pub at : slice_get job.splits.items number ≡ Some split
  pub asks : Asks nodes job.given job.plan split.rows.start split.mask n

-- What was made or used stays, and only whole values that selected rows of splits ask for were added.
pub record KeepsWholes (nodes : List Node) (job : Job) (old new : Wholes) : Type 0 where
  pub made : (n : ℕ) (column : ColumnData) → kept_at old.made n ≡ Some column → kept_at new.made n ≡ Some column
  pub used : (n : ℕ) (column : ColumnData) → kept_at old.used n ≡ Some column → kept_at new.used n ≡ Some column
  pub made_only : AddsOnly (IsAskedFor nodes job) old.made new.made
  pub used_only : AddsOnly (IsAskedFor nodes job) old.used new.used

-- a selected row of one of these splits asks for the whole values of the number
abbrev pub IsAskedBy : List Node → Job → List ℕ → ℕ → Type 0
IsAskedBy nodes job numbers n = (asked : IsAskedFor nodes job n) × Among asked.number numbers

-- What was made or used stays, and only what selected rows of these splits ask for was added.
pub record KeepsWholesFor (nodes : List Node) (job : Job) (numbers : List ℕ) (old new : Wholes) : Type 0 where
  pub made : (n : ℕ) (column : ColumnData) → kept_at old.made n ≡ Some column → kept_at new.made n ≡ Some column
  pub used : (n : ℕ) (column : ColumnData) → kept_at old.used n ≡ Some column → kept_at new.used n ≡ Some column
  pub made_only : AddsOnly (IsAskedBy nodes job numbers) old.made new.made
  pub used_only : AddsOnly (IsAskedBy nodes job numbers) old.used new.used

-- the column that was kept for a number still is
abbrev pub KeepsColumns : List Kept → List Kept → Type 0
KeepsColumns old new = (n : ℕ) (column : ColumnData) → kept_at old n ≡ Some column → kept_at new n ≡ Some column

-- a selected row of a split reads the segment, by a leaf of which no column is kept
pub record IsReadFor (nodes : List Node) (job : Job) (leaves : List Kept) (segment : ℕ) : Type 0 where
  pub number : ℕ
  pub split : Split
  pub at : slice_get job.splits.items number ≡ Some split
  pub read : LeafRead
  pub reads : ReadsFor nodes job split read
  pub not_kept : kept_at leaves read.leaf ≡ None
  pub segment_is : read.segment ≡ segment

-- a selected row of one of these splits reads the segment, by a leaf of which no column is kept
abbrev pub IsWantedBy : List Node → Job → List ℕ → List Kept → ℕ → Type 0
IsWantedBy nodes job numbers leaves segment = (read : IsReadFor nodes job leaves segment) × Among read.number numbers

-- The segments that are wanted from now on are read for these splits.
abbrev pub WantsFor : List Node → Job → List ℕ → Standing → Standing → Type 0
WantsFor nodes job numbers old new = (segment : ℕ) → IsAsked new.reads.wanted segment → IsAsked old.reads.wanted segment ⊎ IsWantedBy nodes job numbers old.leaves segment

-- No more splits are active than may be at once, unless more were before.
abbrev pub KeepsBound : Job → Standing → Standing → Type 0
KeepsBound job old new = length new.started ≤ max (length old.started) (max 1 job.max_active)

-- a selected row of one of these splits reads the leaf of the number
pub record IsLeafFor (nodes : List Node) (job : Job) (numbers : List ℕ) (n : ℕ) : Type 0 where
  pub number : ℕ
  pub among : Among number numbers
  pub split : Split
  pub at : slice_get job.splits.items number ≡ Some split
  pub read : LeafRead
  pub reads : ReadsFor nodes job split read
  pub leaf_is : read.leaf ≡ n

-- Only leaves that selected rows of these splits read were added.
abbrev pub AddsLeaves : List Node → Job → List ℕ → List Kept → List Kept → Type 0
AddsLeaves nodes job numbers old new = AddsOnly (IsLeafFor nodes job numbers) old new

-- Splits were started: the splits that are left stay, those that were active still are, and nothing else changed but
-- what is wanted, for splits that are active.
pub record Starts (nodes : List Node) (job : Job) (old new : Standing) : Type 0 where
  pub left : left_of job new ≡ left_of job old
  pub active : AreAmong (active_of old) (active_of new)
  pub wants : WantsFor nodes job (active_of new) old new
  pub grows : Grows old.reads.wanted new.reads.wanted
  pub handed : new.reads.handed ≡ old.reads.handed
  pub leaves : new.leaves ≡ old.leaves

-- a split is left to be started, and one more may be active
abbrev pub CanStart : Job → Standing → Type 0
CanStart job progress = (progress.next < length job.splits.items) × ((length progress.started ≡ 0) ⊎ (length progress.started < job.max_active))

-- An active split was tried: only leaves and whole values were kept, and no rows were given.
pub record OnlyKeeps (nodes : List Node) (job : Job) (old new : Standing) : Type 0 where
  pub next : new.next ≡ old.next
  pub started : new.started ≡ old.started
  pub held : new.held ≡ old.held
  pub wanted : new.reads.wanted ≡ old.reads.wanted
  pub handed : new.reads.handed ≡ old.reads.handed
  pub told : KeepsTold nodes job old new
  pub leaves : KeepsColumns old.leaves new.leaves
  pub leaves_only : AddsLeaves nodes job (active_of old) old.leaves new.leaves
  pub wholes : KeepsWholesFor nodes job (active_of old) old.wholes new.wholes
