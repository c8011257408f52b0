-- An adaptor whose scan, of one split, did nothing yet.
use Rattle.std.specs.Prelude.{◌≡◌, ◌<◌, false, [], ◌∷◌, None, length, map, slice_index_or}
use Rattle.vx_plan.specs.Tables.{IsGoodTable}
use Rattle.vx_steps.specs.declared.splits.Split.{Split}
use Rattle.vx_steps.specs.Held.{AreTyped}
use Rattle.vx_steps.specs.ScanData.{ScanData}
use Rattle.vx_steps.specs.Standings.{none_given, numbers_from}
use Rattle.vx_drive.specs.declared.adaptors.State.TheVariants.{NeedsCompute}
use Rattle.vx_drive.specs.AdaptorData.{AdaptorData}
use Rattle.vx_drive.specs.Continues.{splits_left}

abbrev pub no_rows : Split
no_rows = record { rows = record { start = 0; end = 0 }; mask = [] }

-- the split of a scan of one
abbrev pub split_of : ScanData → Split
split_of scan = slice_index_or scan.job.splits.items 0 no_rows

-- The scan is of a plan of a good table and of one split, and wants no segment yet.
pub record IsUnread (scan : ScanData) : Type 0 where
  pub good : IsGoodTable scan.nodes
  pub known : scan.job.plan < length scan.nodes
  pub typed : AreTyped scan.nodes scan.job.given
  pub splits : scan.job.splits.items ≡ split_of scan ∷ []
  pub left : splits_left scan ≡ map none_given (numbers_from 0 (split_of scan ∷ []))
  pub wanted : scan.progress.reads.wanted ≡ []
  pub refused : scan.refused ≡ false

pub record IsAtStart (adaptor : AdaptorData) : Type 0 where
  pub scan : IsUnread adaptor.scan
  pub first : adaptor.first ≡ 0
  pub asked : adaptor.asked ≡ 0
  pub held : adaptor.held ≡ None
  pub state : adaptor.state ≡ NeedsCompute
