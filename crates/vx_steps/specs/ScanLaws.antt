-- What the visits of a split's selected rows are to the reads that the plan's own definition gives.
use Rattle.std.specs.Prelude.{◌≡◌, ℕ, ◌<◌, List, length, Some}
use Rattle.std.specs.List.{slice_get}
use Rattle.vx_rows.specs.Reads.{Found, a_leaf_row, IsIn}
use Rattle.vx_rows.specs.SegmentLeaves.{Bytes, leaves_of, IsTorn}
use Rattle.vx_plan.specs.Laws.{IsReadBy}
use Rattle.vx_plan.specs.Nodes.{Node}
use Rattle.vx_plan.specs.Plans.{plan_at}
use Rattle.vx_plan.specs.Tables.{IsGoodTable}
use Rattle.vx_steps.specs.declared.errors.StepError.{StepError}
use Rattle.vx_steps.specs.declared.errors.StepError.TheVariants.{BadSegment}
use Rattle.vx_steps.specs.declared.jobs.Job.{Job}
use Rattle.vx_steps.specs.declared.splits.Split.{Split}
use Rattle.vx_steps.specs.Agreement.{Agrees}
use Rattle.vx_steps.specs.Computed.{UnlessList}
use Rattle.vx_steps.specs.Given.{handed_by}
use Rattle.vx_steps.specs.Held.{AreTyped}
use Rattle.vx_steps.specs.Jobs.{IsReadFor}
use Rattle.vx_steps.specs.KeptData.{Kept}
use Rattle.vx_steps.specs.Laws.{SomeRead, IsReadCause}
use Rattle.vx_steps.specs.ReadTableData.{Wanted}
use Rattle.vx_steps.specs.Steps.{HasCauseIn}

-- a selected row of the split has such a read, with what was handed in in place of what it would read
abbrev pub SplitReads : (Found → Type 0) → List Node → Job → Split → Type 0
SplitReads P nodes job split = SomeRead P (handed_by nodes (Some job.given)) job.offset (plan_at nodes job.plan) split.rows.start split.mask

-- A selected row of a split reads the segment, and not only for values that were handed in.
pub record IsReadBySplit (nodes : List Node) (job : Job) (segment : ℕ) : Type 0 where
  pub number : ℕ
  pub split : Split
  pub at : slice_get job.splits.items number ≡ Some split
  pub read : IsReadBy job.offset segment (plan_at nodes job.plan) split.rows.start split.mask
  pub with_given : SplitReads (IsIn segment) nodes job split

-- a segment that is wanted from now on is one that a selected row reads
abbrev pub WantedIsRead : Type 0
WantedIsRead = (nodes : List Node) (job : Job) (leaves : List Kept) (segment : ℕ) → IsReadFor nodes job leaves segment → IsReadBySplit nodes job segment

-- a leaf of the segment, whose bytes spell no values for it
abbrev pub IsTornIn : Bytes → ℕ → Found → Type 0
IsTornIn bytes segment (a_leaf_row at) = (at.segment ≡ segment) × IsTorn bytes (a_leaf_row at)
IsTornIn bytes segment found = ⊥

-- Why a split has no column: a selected row reads a torn leaf of the segment, a row of the list or the bad code, or is
-- derived by an expression that is a fault at that row.
abbrev pub IsSplitCause : List Node → Job → Split → Bytes → StepError → Type 0
IsSplitCause nodes job split outside (BadSegment segment) = SplitReads (IsTornIn outside segment) nodes job split
IsSplitCause nodes job split outside error = IsReadCause (leaves_of outside) (handed_by nodes (Some job.given)) job.offset (plan_at nodes job.plan) split.rows.start split.mask error

-- the cause of a refusal is one by what the split's selected rows read, for all that lies outside and agrees with what was
-- delivered; that they read a list, whatever lies outside
abbrev pub SplitCauseIsRead : Type 0
SplitCauseIsRead = (nodes : List Node) → IsGoodTable nodes → (job : Job) → job.plan < length nodes → AreTyped nodes job.given → (wanted : List Wanted) (split : Split) (outside : Bytes) (error : StepError) → UnlessList error (Agrees wanted outside) → HasCauseIn nodes job wanted split outside error →
    IsSplitCause nodes job split outside error
