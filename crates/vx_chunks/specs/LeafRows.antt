-- Which rows of a projection's plan read a leaf.
use Rattle.std.specs.Prelude.{◌≡◌, ℕ, ◌<◌, ◌≤◌, None}
use Rattle.vx_rows.specs.Reads.{through}
use Rattle.vx_plan.specs.Plans.{Plan}
use Rattle.vx_plan.specs.Refs.{number_of}
use Rattle.vx_steps.specs.declared.leaf_reads.LeafRead.{LeafRead}
use Rattle.vx_steps.specs.declared.splits.Split.{Split}
use Rattle.vx_steps.specs.Leavings.{IsLeafOf, RowReads}
use Rattle.vx_steps.specs.Visits.{Visits, IsLeafRead}
use Rattle.vx_splits.specs.declared.selected_rows.SelectedRows.{SelectedRows}
use Rattle.vx_drive.specs.declared.plans.ScanPlans.{ScanPlans}
use Rattle.vx_drive.specs.Plans.{projection_node}
use Rattle.vx_chunks.specs.Ways.{ReadsBy}

-- ---- of a plan

-- the row of the plan reads the leaf
abbrev pub ReadsAt : LeafRead → Plan → ℕ → Type 0
ReadsAt read p row = Visits (IsLeafRead read) None p row

-- Each leaf stands at one place of the plan: all its reads are of one segment, and a row between two that read it
-- reads it as well. And a row that reads a leaf through a take reads each that any row reads through it.
pub record LeavesLieTogether (p : Plan) : Type 0 where
  pub segment : (one other : LeafRead) (row at : ℕ) → ReadsAt one p row → ReadsAt other p at → one.leaf ≡ other.leaf → one.segment ≡ other.segment
  pub between : (leaf first row last : ℕ) → first ≤ row → row ≤ last
      → Visits (IsLeafOf leaf) None p first → Visits (IsLeafOf leaf) None p last → Visits (IsLeafOf leaf) None p row
  pub below : (take : ℕ) (one other : LeafRead) (row at : ℕ) → ReadsBy (through take) one p row → ReadsBy (through take) other p at → ReadsBy (through take) other p row

-- ---- of the plans of a scan

-- the row of the projection reads the leaf of that number, if there is such a row
abbrev pub IsReadAt : ScanPlans → ℕ → ℕ → Type 0
IsReadAt plans row leaf = (row < (projection_node plans).rows) × RowReads plans.table (number_of plans.projection) row leaf

-- a chunk as a split of the projection's rows
abbrev pub split_in : SelectedRows → Split
split_in chosen = record { rows = chosen.scope.rows; mask = chosen.mask }

-- the row behind those of a chunk, selected or not
abbrev pub row_behind : SelectedRows → ℕ
row_behind chosen = chosen.scope.rows.end
