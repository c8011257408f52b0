-- What a split comes to, for everything outside of which the scan is.
use Rattle.std.specs.Prelude.{◌≡◌, ◌⊎◌, List, length, Some}
use Rattle.vx_base.specs.Columns.{ColumnData}
use Rattle.vx_base.specs.Masks.{true_count}
use Rattle.vx_picking.specs.Rows.{rows_of, AreOf}
use Rattle.vx_plan.specs.Nodes.{Node}
use Rattle.vx_plan.specs.Plans.{plan_at}
use Rattle.vx_plan.specs.Rules.{node_at}
use Rattle.vx_rows.specs.SegmentLeaves.{Bytes, leaves_of}
use Rattle.vx_steps.specs.declared.errors.StepError.{StepError}
use Rattle.vx_steps.specs.declared.errors.StepError.TheVariants.{BadSegment, Memory}
use Rattle.vx_steps.specs.declared.jobs.Job.{Job}
use Rattle.vx_steps.specs.declared.leaf_reads.LeafRead.{LeafRead}
use Rattle.vx_steps.specs.declared.splits.Split.{Split}
use Rattle.vx_steps.specs.declared.wholes.Wholes.{Wholes}
use Rattle.vx_steps.specs.Computed.{HasCause, UnlessList}
use Rattle.vx_steps.specs.Delivered.{IsOf, SomeTornCause}
use Rattle.vx_steps.specs.Given.{handed_by, row_value}
use Rattle.vx_steps.specs.Kept.{IsKept}
use Rattle.vx_steps.specs.KeptData.{Kept}
use Rattle.vx_steps.specs.ReadTableData.{Wanted}
use Rattle.vx_steps.specs.Wants.{ReadsLeaf}
use Rattle.vx_steps.specs.Wholes.{AreThere, HasInsideCause}

-- a selected row of the split reads the leaf
abbrev pub ReadsFor : List Node → Job → Split → LeafRead → Type 0
ReadsFor nodes job split read = ReadsLeaf nodes job.given job.plan split.rows.start split.mask read

-- each leaf that a selected row of the split reads is kept
abbrev pub AreLeavesKept : List Node → Job → Split → List Kept → Type 0
AreLeavesKept nodes job split leaves = (read : LeafRead) → ReadsFor nodes job split read → IsKept leaves read.leaf

-- The column has the plan's dtype, and the plan's values at the split's selected rows, in their order, with the values
-- that were handed in in place of the whole ones, by whatever lies outside of which the scan is. The whole values that
-- these rows ask for were made or used.
pub record IsOutput (nodes : List Node) (job : Job) (split : Split) (wanted : List Wanted) (leaves made : List Kept) (after : Wholes) (column : ColumnData) : Type 0 where
  pub dtype : column.dtype ≡ (node_at nodes job.plan).dtype
  pub count : length column.values ≡ true_count split.mask
  pub right : (outside : Bytes) → IsOf nodes job.offset wanted leaves made outside → AreOf (row_value (leaves_of outside) (handed_by nodes (Some job.given)) job.offset (plan_at nodes job.plan)) (rows_of split.rows.start split.mask) column.values
  pub there : AreThere nodes job.given after job.plan split.rows.start split.mask

-- A selected row of the split has the visit that the refusal names, by what lies outside.
abbrev pub HasRowCause : List Node → Job → Split → Bytes → StepError → Type 0
HasRowCause nodes job split outside error = HasCause (leaves_of outside) (handed_by nodes (Some job.given)) job.offset (plan_at nodes job.plan) split.rows.start split.mask error

-- a leaf that is needed is torn, or a selected row has the visit that the refusal names
abbrev pub HasNeedCause : List Node → Job → Split → List LeafRead → List Wanted → Bytes → StepError → Type 0
HasNeedCause nodes job split needs wanted outside (BadSegment segment) = SomeTornCause nodes wanted needs (BadSegment segment)
HasNeedCause nodes job split needs wanted outside error = HasRowCause nodes job split outside error

-- The refusal has its cause, by whatever lies outside of which the scan is; that a list is read, whatever lies outside.
abbrev pub IsRefusal : List Node → Job → Split → List LeafRead → List Wanted → List Kept → List Kept → StepError → Type 0
IsRefusal nodes job split needs wanted leaves made error = (outside : Bytes) → UnlessList error (IsOf nodes job.offset wanted leaves made outside) → HasNeedCause nodes job split needs wanted outside error

-- The fault is one of whole values that the split's selected rows ask for, by whatever lies outside of which the scan is;
-- that a list is read there, whatever lies outside.
abbrev pub FailsInWholes : List Node → Job → Split → List Wanted → List Kept → List Kept → StepError → Type 0
FailsInWholes nodes job split wanted leaves made error =
    (outside : Bytes) → UnlessList error (IsOf nodes job.offset wanted leaves made outside) → HasInsideCause (leaves_of outside) (handed_by nodes (Some job.given)) job.offset (plan_at nodes job.plan) split.rows.start split.mask error

-- Where a refusal names a fault of rows, the whole values that the split's selected rows ask for were made or used, or
-- the fault is one of theirs.
abbrev pub LeavesWholes : List Node → Job → Split → List Wanted → List Kept → List Kept → Wholes → StepError → Type 0
LeavesWholes nodes job split wanted leaves made after (BadSegment segment) = Unit {0}
LeavesWholes nodes job split wanted leaves made after Memory = Unit {0}
LeavesWholes nodes job split wanted leaves made after error = AreThere nodes job.given after job.plan split.rows.start split.mask ⊎ FailsInWholes nodes job split wanted leaves made error
