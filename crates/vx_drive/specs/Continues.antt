-- What steps of a scan keep and give, however many there are.
use Rattle.std.specs.Prelude.{◌≡◌, ℕ, ◌<◌, ◌≤◌, ◌⊎◌, true, List, Some, length, slice_range}
use Rattle.std.specs.List.{slice_get}
use Rattle.vx_steps.specs.declared.splits.Split.{Split}
use Rattle.vx_steps.specs.Jobs.{IsReadFor, KeepsColumns, KeepsWholes}
use Rattle.vx_steps.specs.Pieces.{piece_of}
use Rattle.vx_steps.specs.Rows.{SelectsSome}
use Rattle.vx_steps.specs.ScanData.{ScanData, StaysTold}
use Rattle.vx_steps.specs.Standings.{SplitLeft, left_of}
use Rattle.vx_steps.specs.Steps.{IsLeftAt, IsSplitOutput}
use Rattle.vx_steps.specs.Turns.{AreLeavesKept}
use Rattle.vx_steps.specs.Wants.{Grows, IsAsked}
use Rattle.vx_steps.specs.Wholes.{AreThere}
use Rattle.vx_base.specs.Columns.{ColumnData}

-- The table and the job stay; what the scan held to be so outside still is so there; and what was wanted, kept, made or
-- used stays. This is true of a step that is refused as well.
pub record KeepsScan (old new : ScanData) : Type 0 where
  pub nodes : new.nodes ≡ old.nodes
  pub job : new.job ≡ old.job
  pub told : StaysTold old new
  pub grows : Grows old.progress.reads.wanted new.progress.reads.wanted
  pub leaves : KeepsColumns old.progress.leaves new.progress.leaves
  pub wholes : KeepsWholes old.nodes old.job old.progress.wholes new.progress.wholes

-- the segment was wanted before, or a selected row of a split reads it by a leaf of which no column was kept
abbrev pub MayBeRead : ScanData → ℕ → Type 0
MayBeRead scan segment = IsAsked scan.progress.reads.wanted segment ⊎ IsReadFor scan.nodes scan.job scan.progress.leaves segment

-- each segment that is wanted from now on is such a one
abbrev pub WantsReads : ScanData → ScanData → Type 0
WantsReads old new = (segment : ℕ) → IsAsked new.progress.reads.wanted segment → MayBeRead old segment

-- No step was refused, and each segment that is wanted may be read.
pub record Continues (old new : ScanData) : Type 0 where
  pub keeps : KeepsScan old new
  pub wants : WantsReads old new
  pub refused : new.refused ≡ old.refused

-- the splits that are left, each with a selected row that was not given yet
abbrev pub splits_left : ScanData → List SplitLeft
splits_left scan = left_of scan.job scan.progress

-- The scan's next output are rows of a split that was left, from the first that was not given on up to a selected one that
-- is left or to the last, with a selected one among them, by whatever lies outside of which the scan was. The split is left
-- with the rows behind them, unless there are none. The whole values that its rows ask for are there, and the leaves that
-- these rows read are kept.
pub record ComesOut (number : ℕ) (column : ColumnData) (old new : ScanData) : Type 0 where
  pub place : ℕ
  pub from : ℕ
  pub to : ℕ
  pub at : slice_get (splits_left old) place ≡ Some (record { number = number; given = from })
  pub split : Split
  pub split_at : slice_get old.job.splits.items number ≡ Some split
  pub within : to ≤ length split.mask
  pub some : SelectsSome (slice_range split.mask from to)
  pub rest : to < length split.mask → slice_get split.mask to ≡ Some true
  pub output : IsSplitOutput old.nodes old.job old.progress new.progress.wholes (piece_of split from to) column
  pub there : AreThere old.nodes old.job.given new.progress.wholes old.job.plan split.rows.start split.mask
  pub leaves : AreLeavesKept old.nodes old.job (piece_of split from to) new.progress.leaves
  pub left : IsLeftAt (splits_left old) (splits_left new) place number to (length split.mask)
