-- What a run gathers: the outputs of a split, one behind another, until none of it is left.
use Rattle.std.specs.Prelude.{◌≡◌, ◌≢◌, ℕ, List, [], length, Option, Some, None, Result}
use Rattle.std.specs.List.{flat_map, AllByRecursion}
use Rattle.vx_rows.specs.SegmentLeaves.{leaves_of}
use Rattle.vx_plan.specs.Plans.{plan_at}
use Rattle.vx_plan.specs.Rules.{node_at}
use Rattle.vx_steps.specs.declared.splits.Split.{Split}
use Rattle.vx_steps.specs.Given.{handed_by, row_value}
use Rattle.vx_steps.specs.Rows.{AreOf, rows_of}
use Rattle.vx_steps.specs.ScanData.{ScanData}
use Rattle.vx_steps.specs.Turns.{AreLeavesKept}
use Rattle.vx_steps.specs.Wholes.{AreThere}
use Rattle.vx_drive.specs.declared.errors.ScanError.{ScanError}
use Rattle.vx_drive.specs.Runs.{EndsRun, WhereScanned}
use Rattle.vx_drive.specs.Starts.{split_of}
use Rattle.vx_base.specs.Columns.{ColumnData}
use Rattle.vx_base.specs.Data.{DataType, Datum}
use Rattle.vx_base.specs.Masks.{true_count}
use Rattle.vx_base.specs.Sources.{SourceState}
use Rattle.vx_base.specs.declared.locations.SegmentLocation.{SegmentLocation}

-- the values of columns, one column behind another
abbrev pub values_in : List ColumnData → List Datum
values_in outputs = flat_map (λ (output : ColumnData). output.values) outputs

-- all are of that dtype
abbrev pub AreOfDtype : DataType → List ColumnData → Type 0
AreOfDtype dtype outputs = AllByRecursion (λ (output : ColumnData). output.dtype ≡ dtype) outputs

-- there is one dtype of which they are
abbrev pub HaveOneDtype : List ColumnData → Type 0
HaveOneDtype outputs = (dtype : DataType) × AreOfDtype dtype outputs

-- the column is that of all outputs, one behind another; there is none where there are none
abbrev pub IsJoined : List ColumnData → Option ColumnData → Type 0
IsJoined outputs None = outputs ≡ []
IsJoined outputs (Some column) = (outputs ≢ []) × AreOfDtype column.dtype outputs × (column.values ≡ values_in outputs)

-- Each output has the plan's dtype, and one behind another they have its values at the selected rows of this split, in
-- order; it is the split of the scan, or the first rows of that. Where there are outputs, the whole values that all rows of
-- the scan's split ask for were made or used; and the leaves that these rows read are kept.
pub record Gathers (locations : List SegmentLocation) (start scan : ScanData) (before : SourceState) (split : Split) (outputs : List ColumnData) : Type 0 where
  pub dtype : AreOfDtype (node_at start.nodes start.job.plan).dtype outputs
  pub count : length (values_in outputs) ≡ true_count split.mask
  pub right : WhereScanned locations start before (λ bytes.
      AreOf (row_value (leaves_of bytes) (handed_by start.nodes (Some start.job.given)) start.job.offset (plan_at start.nodes start.job.plan)) (rows_of split.rows.start split.mask) (values_in outputs))
  pub there : outputs ≢ [] → AreThere start.nodes start.job.given scan.progress.wholes start.job.plan (split_of start).rows.start (split_of start).mask
  pub leaves : AreLeavesKept start.nodes start.job split scan.progress.leaves

-- a run that gathers all outputs of the scan's split
abbrev pub GatherGives : List SegmentLocation → ℕ → ScanData → Result (Unit {0}) ScanError → List ColumnData → ScanData → SourceState → SourceState → Type 0
GatherGives locations limit start result outputs scan before after = EndsRun (λ (done : Unit {0}). Gathers locations start scan before (split_of start) outputs) locations limit start result scan before after
