-- What is left of a scan when its run over a source has ended.
use Rattle.std.specs.Prelude.{◌≡◌, ℕ, List, [], map}
use Rattle.vx_steps.specs.declared.leavings.ScanKept.{ScanKept}
use Rattle.vx_steps.specs.Held.{AreTyped}
use Rattle.vx_steps.specs.Kept.{kept_data, AreOfDistinctPlans}
use Rattle.vx_steps.specs.Leavings.{IsReadBehind}
use Rattle.vx_steps.specs.Offers.{Keeps}
use Rattle.vx_steps.specs.ScanData.{ScanData}
use Rattle.vx_steps.specs.Wholes.{UsesGiven}
use Rattle.vx_drive.specs.declared.runs.Finished.{Finished}
use Rattle.vx_drive.specs.Runs.{RunGives}
use Rattle.vx_base.specs.Sources.{SourceState}
use Rattle.vx_base.specs.declared.locations.SegmentLocation.{SegmentLocation}

-- The scan hands on the leaves that the row behind its split reads, and its whole values.
pub record LeavesKept (scan : ScanData) (kept : ScanKept) : Type 0 where
  pub leaves : Keeps (λ one. IsReadBehind scan.nodes scan.job one.node) scan.progress.leaves (map kept_data kept.leaves.items)
  pub used : map kept_data kept.used.items ≡ scan.progress.wholes.used
  pub made : map kept_data kept.made.items ≡ scan.progress.wholes.made
  pub uses : UsesGiven scan.job.given [] scan.progress.wholes.used
  pub typed_leaves : AreTyped scan.nodes (map kept_data kept.leaves.items)
  pub typed_made : AreTyped scan.nodes scan.progress.wholes.made
  pub apart_made : AreOfDistinctPlans scan.progress.wholes.made

-- It gave what a run gives, and nothing is in flight at the source any more.
pub record Finishes (locations : List SegmentLocation) (limit : ℕ) (start : ScanData) (finished : Finished) (before after : SourceState) : Type 0 where
  pub scan : ScanData
  pub gives : RunGives locations limit start finished.output scan before after
  pub kept : LeavesKept scan finished.kept
  pub in_flight : after.in_flight ≡ []
