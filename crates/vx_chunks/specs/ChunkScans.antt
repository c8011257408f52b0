-- The scan of a chunk, before its first step.
use Rattle.std.specs.Prelude.{◌≡◌, List}
use Rattle.vx_rows.specs.SegmentLeaves.{Bytes}
use Rattle.vx_plan.specs.Refs.{number_of}
use Rattle.vx_steps.specs.Jobs.{IsUnstarted}
use Rattle.vx_steps.specs.KeptData.{Kept}
use Rattle.vx_steps.specs.ScanData.{ScanData, IsScanOf}
use Rattle.vx_splits.specs.declared.selected_rows.SelectedRows.{SelectedRows}
use Rattle.vx_drive.specs.declared.plans.ScanPlans.{ScanPlans}
use Rattle.vx_drive.specs.Starts.{IsUnread, split_of}
use Rattle.vx_chunks.specs.LeafRows.{split_in}
use Rattle.vx_chunks.specs.Outcomes.{AreHandedBy}

-- It is of the projection and of the chunk alone, with these given values, leaves and made values; and it is of all
-- bytes by which the leaves and the made values are so.
pub record IsChunkScan (plans : ScanPlans) (chosen : SelectedRows) (given leaves made : List Kept) (scan : ScanData) : Type 0 where
  pub nodes : scan.nodes ≡ plans.table
  pub plan : scan.job.plan ≡ number_of plans.projection
  pub offset : scan.job.offset ≡ plans.row_offset
  pub given_is : scan.job.given ≡ given
  pub split : split_of scan ≡ split_in chosen
  pub leaves_are : scan.progress.leaves ≡ leaves
  pub made_are : scan.progress.wholes.made ≡ made
  pub told : (bytes : Bytes) → AreHandedBy plans leaves made bytes → IsScanOf scan bytes
  pub unread : IsUnread scan
  pub unstarted : IsUnstarted scan.progress
  pub handed : scan.progress.reads.handed ≡ 0
