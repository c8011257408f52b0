-- What the selected rows of a chunk read and are worth, with the values that are given in place of whole ones.
use Rattle.std.specs.Prelude.{ℕ, List, [], Some}
use Rattle.vx_rows.specs.Derivations.{Leaves}
use Rattle.vx_rows.specs.Reads.{Found, IsIn}
use Rattle.vx_rows.specs.SegmentLeaves.{Bytes}
use Rattle.vx_plan.specs.PlanRows.{plan_value}
use Rattle.vx_steps.specs.declared.errors.StepError.{StepError}
use Rattle.vx_steps.specs.Given.{Handed, handed_by, row_value}
use Rattle.vx_steps.specs.KeptData.{Kept}
use Rattle.vx_steps.specs.Laws.{IsRowOf, IsBadCodeAt, SomeRead}
use Rattle.vx_steps.specs.Rows.{AreOf, rows_of}
use Rattle.vx_steps.specs.ScanLaws.{IsTornIn}
use Rattle.vx_steps.specs.Visits.{Test, SomeVisit, HasEvalFault}
use Rattle.vx_steps.specs.Wholes.{HasInsideCause}
use Rattle.vx_splits.specs.declared.selected_rows.SelectedRows.{SelectedRows}
use Rattle.vx_drive.specs.declared.plans.ScanPlans.{ScanPlans}
use Rattle.vx_drive.specs.Plans.{projection_plan}
use Rattle.vx_base.specs.Columns.{ColumnData}

-- what stands in place of the whole values of takes and shares
abbrev pub given_to : ScanPlans → List Kept → Handed
given_to plans given = handed_by plans.table (Some given)

-- ---- what they read

-- some selected row has such a read
abbrev pub ChunkFinds : (Found → Type 0) → ScanPlans → List Kept → SelectedRows → Type 0
ChunkFinds P plans given chosen = SomeRead P (given_to plans given) plans.row_offset (projection_plan plans) chosen.scope.rows.start chosen.mask

-- some selected row has such a visit
abbrev pub ChunkVisits : Test → ScanPlans → List Kept → SelectedRows → Type 0
ChunkVisits P plans given chosen = SomeVisit P (given_to plans given) (projection_plan plans) chosen.scope.rows.start chosen.mask

-- ---- why they have no piece

-- some selected row reads a row of the list of that number
abbrev pub ChunkReadsList : ScanPlans → List Kept → SelectedRows → ℕ → Type 0
ChunkReadsList plans given chosen list = ChunkFinds (IsRowOf list) plans given chosen

-- some selected row reads a leaf of the segment
abbrev pub ChunkReadsSegment : ScanPlans → List Kept → SelectedRows → ℕ → Type 0
ChunkReadsSegment plans given chosen segment = ChunkFinds (IsIn segment) plans given chosen

-- some selected row reaches the segment: it reads a leaf of it where nothing is given
abbrev pub ChunkReaches : ScanPlans → SelectedRows → ℕ → Type 0
ChunkReaches plans chosen segment = ChunkReadsSegment plans [] chosen segment

-- some selected row reads a leaf of the segment, whose bytes spell no values for it
abbrev pub ChunkReadsTorn : Bytes → ScanPlans → List Kept → SelectedRows → ℕ → Type 0
ChunkReadsTorn bytes plans given chosen segment = ChunkFinds (IsTornIn bytes segment) plans given chosen

-- some selected row reads the code at that row of the take of that number, which is neither null nor the place of a value
abbrev pub ChunkReadsBadCode : Leaves → ScanPlans → List Kept → SelectedRows → ℕ → ℕ → Type 0
ChunkReadsBadCode leaves plans given chosen take row = ChunkFinds (IsBadCodeAt leaves take row) plans given chosen

-- Some selected row rests on that row of an expression, which is a fault over a value that is none.
abbrev pub ChunkFaultsAt : Leaves → ScanPlans → List Kept → SelectedRows → ℕ → Type 0
ChunkFaultsAt leaves plans given chosen row = ChunkVisits (HasEvalFault leaves plans.row_offset row) plans given chosen

-- The fault is one of whole values that the selected rows ask for, which nothing that is given stands in place of.
abbrev pub ChunkFailsInside : Leaves → ScanPlans → List Kept → SelectedRows → StepError → Type 0
ChunkFailsInside leaves plans given chosen fault = HasInsideCause leaves (given_to plans given) plans.row_offset (projection_plan plans) chosen.scope.rows.start chosen.mask fault

-- ---- the piece

-- these are the values of the selected rows, in order, none of which is a fault
abbrev pub IsPiece : Leaves → ScanPlans → List Kept → SelectedRows → ColumnData → Type 0
IsPiece leaves plans given chosen column =
    AreOf (row_value leaves (given_to plans given) plans.row_offset (projection_plan plans)) (rows_of chosen.scope.rows.start chosen.mask) column.values

-- these are the values that the plan itself has at the selected rows, in order, none of which is a fault
abbrev pub IsPlanPiece : Leaves → ScanPlans → SelectedRows → ColumnData → Type 0
IsPlanPiece leaves plans chosen column =
    AreOf (plan_value leaves plans.row_offset (projection_plan plans)) (rows_of chosen.scope.rows.start chosen.mask) column.values
