-- What a scan has of the takes that the selected rows of its splits read.
use Rattle.std.specs.Prelude.{◌≡◌, ℕ, ◌<◌, ◌⊎◌, List, [], ◌∷◌, length, Some, Result, Ok, Err, map}
use Rattle.std.specs.List.{slice_get}
use Rattle.vx_base.specs.Columns.{ColumnData}
use Rattle.vx_picking.specs.Rows.{SomeRow}
use Rattle.vx_plan.specs.Nodes.{Node}
use Rattle.vx_plan.specs.Plans.{plan_at}
use Rattle.vx_plan.specs.Tables.{IsGoodTable}
use Rattle.vx_rows.specs.SegmentLeaves.{Bytes}
use Rattle.vx_steps.specs.declared.errors.StepError.{StepError}
use Rattle.vx_steps.specs.declared.errors.StepError.TheVariants.{EvalFault}
use Rattle.vx_steps.specs.declared.jobs.Job.{Job}
use Rattle.vx_steps.specs.declared.progress.Turn.{Turn}
use Rattle.vx_steps.specs.declared.progress.Turn.TheVariants.{Done}
use Rattle.vx_steps.specs.declared.splits.Split.{Split}
use Rattle.vx_steps.specs.declared.wholes.Wholes.{Wholes}
use Rattle.vx_steps.specs.Below.{HasNoShare, HasNoEvalBelowTake}
use Rattle.vx_steps.specs.Jobs.{number_left, IsTold, IsUnstarted, KeepsWholes}
use Rattle.vx_steps.specs.Standings.{left_of, Standing}
use Rattle.vx_steps.specs.Kept.{IsKept}
use Rattle.vx_steps.specs.Laws.{IsValuesOf, ReadsTake}
use Rattle.vx_steps.specs.Needs.{Among}
use Rattle.vx_steps.specs.Steps.{IsDone, IsSplitOutput, IsStepRefusal, LeavesSplit, TakesTurn}

-- the whole values of the number were used or made
abbrev pub HasWhole : Wholes → ℕ → Type 0
HasWhole wholes n = IsKept wholes.used n ⊎ IsKept wholes.made n

-- Of each outermost take that a selected row of the split reads, the whole values were used or made.
abbrev pub HasTakes : List Node → Job → Split → Wholes → Type 0
HasTakes nodes job split wholes = (take : ℕ) → SomeRow (ReadsTake take job.offset (plan_at nodes job.plan)) split.rows.start split.mask → (values : ℕ) × IsValuesOf nodes take values × HasWhole wholes values

-- ---- one split

-- A split whose column is given has its takes, where no share stands in the plan.
abbrev pub OutputHasTakes : Type 0
OutputHasTakes = (nodes : List Node) → IsGoodTable nodes → (job : Job) → job.plan < length nodes → HasNoShare (plan_at nodes job.plan) → (old : Standing) (after : Wholes) (split : Split) (column : ColumnData) → IsSplitOutput nodes job old after split column → HasTakes nodes job split after

-- And where no expression stands below a take, so has one that is refused for an expression that is a fault.
abbrev pub EvalFaultHasTakes : Type 0
EvalFaultHasTakes = (nodes : List Node) → IsGoodTable nodes → (job : Job) → job.plan < length nodes → HasNoShare (plan_at nodes job.plan) → HasNoEvalBelowTake (plan_at nodes job.plan) → (old : Standing) (after : Wholes) (split : Split) (at : ℕ) (outside : Bytes) → IsTold nodes job old outside → LeavesSplit nodes job old after split (EvalFault at) → HasTakes nodes job split after

-- ---- a scan, from step to step

-- Each split is left, or has its takes.
abbrev pub EachHasTakes : List Node → Job → Standing → Type 0
EachHasTakes nodes job progress = (number : ℕ) (split : Split) → slice_get job.splits.items number ≡ Some split → Among number (map number_left (left_of job progress)) ⊎ HasTakes nodes job split progress.wholes

-- It is so before the first step.
abbrev pub UnstartedHasTakes : Type 0
UnstartedHasTakes = (nodes : List Node) (job : Job) (progress : Standing) → IsUnstarted progress → EachHasTakes nodes job progress

-- A turn leaves it so, where no share stands in the plan.
abbrev pub TurnKeepsTakes : Type 0
TurnKeepsTakes = (nodes : List Node) → IsGoodTable nodes → (job : Job) → job.plan < length nodes → HasNoShare (plan_at nodes job.plan) → (old new : Standing) (turn : Turn) → KeepsWholes nodes job old.wholes new.wholes → TakesTurn nodes job old new turn → EachHasTakes nodes job old → EachHasTakes nodes job new

-- And so does what changes neither the splits that are left nor whole values, as bytes that come.
abbrev pub SameKeepsTakes : Type 0
SameKeepsTakes = (nodes : List Node) (job : Job) (old new : Standing) → left_of job new ≡ left_of job old → new.wholes ≡ old.wholes → EachHasTakes nodes job old → EachHasTakes nodes job new

-- A scan that is done has the takes of all its splits.
abbrev pub DoneHasTakes : Type 0
DoneHasTakes = (nodes : List Node) (job : Job) (old new : Standing) → IsDone job old new → EachHasTakes nodes job new → (number : ℕ) (split : Split) → slice_get job.splits.items number ≡ Some split → HasTakes nodes job split new.wholes

-- the scan is done, or is refused for an expression that is a fault
abbrev pub Ends : List Node → Job → Standing → Standing → Result Turn StepError → Type 0
Ends nodes job old new (Ok Done) = IsDone job old new
Ends nodes job old new (Ok turn) = ⊥
Ends nodes job old new (Err (EvalFault at)) = IsStepRefusal nodes job old new (EvalFault at)
Ends nodes job old new (Err error) = ⊥

-- So a scan of one split that is done, or is refused for an expression that is a fault, has the split's takes.
abbrev pub OneSplitHasTakes : Type 0
OneSplitHasTakes = (nodes : List Node) → IsGoodTable nodes → (job : Job) → job.plan < length nodes → HasNoShare (plan_at nodes job.plan) → HasNoEvalBelowTake (plan_at nodes job.plan) → (split : Split) → job.splits.items ≡ split ∷ [] →
    (old new : Standing) (outside : Bytes) (result : Result Turn StepError) → EachHasTakes nodes job old → IsTold nodes job old outside → KeepsWholes nodes job old.wholes new.wholes → Ends nodes job old new result → HasTakes nodes job split new.wholes

-- ---- a scan, from its first step on

-- The scan took a turn; or neither the splits that are left nor whole values changed, as where bytes came.
abbrev pub Goes : List Node → Job → Standing → Standing → Type 0
Goes nodes job old new = ((turn : Turn) × TakesTurn nodes job old new turn × KeepsWholes nodes job old.wholes new.wholes) ⊎ ((left_of job new ≡ left_of job old) × (new.wholes ≡ old.wholes))

-- it went from one to the next of these, and none of its steps was refused
abbrev pub WentThrough : List Node → Job → Standing → List Standing → Type 0
WentThrough nodes job first [] = Unit {0}
WentThrough nodes job first (next ∷ more) = Goes nodes job first next × WentThrough nodes job next more

abbrev pub last_of : Standing → List Standing → Standing
last_of first [] = first
last_of first (next ∷ more) = last_of next more

-- A scan of one split, from where it was not started to where it is done, or is refused for an expression that is a
-- fault: it used or made the whole values of each outermost take that the split's selected rows read.
abbrev pub ScanHasTakes : Type 0
ScanHasTakes = (nodes : List Node) → IsGoodTable nodes → (job : Job) → job.plan < length nodes → HasNoShare (plan_at nodes job.plan) → HasNoEvalBelowTake (plan_at nodes job.plan) → (split : Split) → job.splits.items ≡ split ∷ [] →
    (first new : Standing) (more : List Standing) (outside : Bytes) (result : Result Turn StepError) → IsUnstarted first → WentThrough nodes job first more → IsTold nodes job (last_of first more) outside → KeepsWholes nodes job (last_of first more).wholes new.wholes → Ends nodes job (last_of first more) new result →
    HasTakes nodes job split new.wholes
