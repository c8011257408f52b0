-- A scan as plain data.
use Rattle.std.specs.Prelude.{◌≡◌, ℕ, Bool, false, true, List, [], ◌⊎◌, ◌↔◌, map, Some}
use Rattle.vx_plan.specs.Nodes.{Node}
use Rattle.vx_rows.specs.SegmentLeaves.{Bytes, leaves_of}
use Rattle.vx_steps.specs.declared.jobs.Job.{Job}
use Rattle.vx_steps.specs.declared.reads.ReadId.{ReadId}
use Rattle.vx_steps.specs.declared.splits.Split.{Split}
use Rattle.vx_steps.specs.Held.{AreMade, HaveLeaves}
use Rattle.vx_steps.specs.Jobs.{IsTold, IsUnstarted}
use Rattle.vx_steps.specs.Needs.{Among}
use Rattle.vx_steps.specs.ReadTable.{Delivers}
use Rattle.vx_steps.specs.Standings.{left_of, none_given, numbers_from, Standing}

-- the table, what is to do, how far it is, and whether a step was refused
pub record ScanData : Type 0 where
  pub nodes : List Node
  pub job : Job
  pub progress : Standing
  pub refused : Bool

-- what the scan holds is so outside
abbrev pub IsScanOf : ScanData → Bytes → Type 0
IsScanOf scan outside = IsTold scan.nodes scan.job scan.progress outside

-- what was so outside still is
abbrev pub StaysTold : ScanData → ScanData → Type 0
StaysTold old new = (outside : Bytes) → IsScanOf old outside → IsScanOf new outside

-- The leaves and the whole values that were handed in are all that is asked of what lies outside: these leaves are kept
-- there, and by its leaves these values are those of their plans, with the offset of the scan.
abbrev pub IsOfHanded : ScanData → Type 0
IsOfHanded scan =
    (outside : Bytes) → HaveLeaves scan.nodes scan.progress.leaves (leaves_of outside) → AreMade scan.nodes scan.job.offset scan.progress.wholes.made (leaves_of outside) → IsScanOf scan outside

-- Nothing was done yet: all splits that select a row are left, and nothing is claimed of what lies outside.
pub record IsNew (nodes : List Node) (plan : ℕ) (splits : List Split) (scan : ScanData) : Type 0 where
  pub nodes_are : scan.nodes ≡ nodes
  pub plan_is : scan.job.plan ≡ plan
  pub splits_are : scan.job.splits.items ≡ splits
  pub given : scan.job.given ≡ []
  pub max_active : scan.job.max_active ≡ 1
  pub offset : scan.job.offset ≡ 0
  pub left : left_of scan.job scan.progress ≡ map none_given (numbers_from 0 splits)
  pub unstarted : IsUnstarted scan.progress
  pub handed : scan.progress.reads.handed ≡ 0
  pub leaves : scan.progress.leaves ≡ []
  pub made : scan.progress.wholes.made ≡ []
  pub held : scan.progress.held ≡ []
  pub refused : scan.refused ≡ false
  pub told : (outside : Bytes) → IsScanOf scan outside

-- The bytes of the read came, its segment is held, unless a step was refused before, and all else is as it was. Where they are
-- those of its segment outside, the scan stays what it is there.
pub record TakesBytes (read : ReadId) (bytes : List ℕ) (old new : ScanData) : Type 0 where
  pub delivers : Delivers read bytes old.progress.reads new.progress.reads
  pub same : new ≡ record old { progress = record old.progress { reads = new.progress.reads; held = new.progress.held } }
  pub held : old.refused ≡ false → (s : ℕ) → Among s new.progress.held ↔ (Among s old.progress.held ⊎ (delivers.segment ≡ s))
  pub let_go : old.refused ≡ true → new.progress.held ≡ old.progress.held
  pub nodes : new.nodes ≡ old.nodes
  pub job : new.job ≡ old.job
  pub left : left_of new.job new.progress ≡ left_of old.job old.progress
  pub leaves : new.progress.leaves ≡ old.progress.leaves
  pub wholes : new.progress.wholes ≡ old.progress.wholes
  pub refused : new.refused ≡ old.refused
  pub told : (outside : Bytes) → outside delivers.segment ≡ Some bytes → IsScanOf old outside → IsScanOf new outside
