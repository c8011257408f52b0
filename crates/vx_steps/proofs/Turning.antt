-- What a refusal of a split comes to, from what refuses it.
use Rattle.std.proofs.Common.{◌≡◌, ℕ, ◌⊎◌, inl, inr, List, map}
use Rattle.vx_plan.specs.Nodes.{Node}
use Rattle.vx_rows.specs.SegmentLeaves.{Bytes}
use Rattle.vx_steps.specs.declared.errors.StepError.{StepError}
use Rattle.vx_steps.specs.declared.errors.StepError.TheVariants.{BadSegment, Unsupported, BadCode, EvalFault, Memory}
use Rattle.vx_steps.specs.declared.jobs.Job.{Job}
use Rattle.vx_steps.specs.declared.leaf_reads.LeafRead.{LeafRead}
use Rattle.vx_steps.specs.declared.placed_reads.PlacedRead.{PlacedRead}
use Rattle.vx_steps.specs.declared.splits.Split.{Split}
use Rattle.vx_steps.specs.declared.wholes.Wholes.{Wholes}
use Rattle.vx_steps.specs.Computed.{UnlessList}
use Rattle.vx_steps.specs.Delivered.{IsOf}
use Rattle.vx_steps.specs.KeptData.{Kept}
use Rattle.vx_steps.specs.Pieces.{piece_of, read_of}
use Rattle.vx_steps.specs.ReadTableData.{Wanted}
use Rattle.vx_steps.specs.Tries.{IsTornAt, LeavesFirst, Refuses}
use Rattle.vx_steps.specs.Turns.{AreLeavesKept, FailsInWholes, HasNeedCause, HasRowCause, IsRefusal, LeavesWholes}
use Rattle.vx_steps.specs.Wholes.{AreThere}
use Rattle.vx_steps.proofs.NextNeeds.{got_read}
use Rattle.vx_steps.proofs.Releasing.{got_among}

-- a torn leaf is the cause of a refusal, which leaves nothing
pub torn_refuses : (nodes : List Node) (job : Job) (split : Split) (needs : List PlacedRead) (place : ℕ) (wanted : List Wanted) (leaves made : List Kept) (wholes : Wholes) (new : List Kept) (error : StepError) → IsTornAt nodes wanted needs place error → Refuses nodes job split (map read_of needs) wanted leaves made wholes new error
torn_refuses nodes job split needs place wanted leaves made wholes new (BadSegment segment) (need, at, torn) = record { cause = λ outside is. (read_of need, got_among (map read_of needs) place (read_of need) (got_read needs place need at), torn); left = tt; left_leaves = tt }
torn_refuses nodes job split needs place wanted leaves made wholes new (Unsupported list) (need, at, torn) = absurd torn
torn_refuses nodes job split needs place wanted leaves made wholes new (BadCode take row) (need, at, torn) = absurd torn
torn_refuses nodes job split needs place wanted leaves made wholes new (EvalFault row) (need, at, torn) = absurd torn
torn_refuses nodes job split needs place wanted leaves made wholes new Memory (need, at, torn) = record { cause = λ outside is. tt; left = tt; left_leaves = tt }

need_cause : (nodes : List Node) (job : Job) (split : Split) (needs : List LeafRead) (wanted : List Wanted) (outside : Bytes) (error : StepError) → HasRowCause nodes job split outside error → HasNeedCause nodes job split needs wanted outside error
need_cause nodes job split needs wanted outside (BadSegment segment) cause = absurd cause
need_cause nodes job split needs wanted outside (Unsupported list) cause = cause
need_cause nodes job split needs wanted outside (BadCode take row) cause = cause
need_cause nodes job split needs wanted outside (EvalFault row) cause = cause
need_cause nodes job split needs wanted outside Memory cause = tt

-- and so is a fault of a row
pub row_refusal : (nodes : List Node) (job : Job) (split : Split) (needs : List LeafRead) (wanted : List Wanted) (leaves made : List Kept) (error : StepError) → ((outside : Bytes) → UnlessList error (IsOf nodes job.offset wanted leaves made outside) → HasRowCause nodes job split outside error) → IsRefusal nodes job split needs wanted leaves made error
row_refusal nodes job split needs wanted leaves made error cause = λ outside is. need_cause nodes job split needs wanted outside error (cause outside is)

-- ---- what a refusal leaves

pub row_leaves : (nodes : List Node) (job : Job) (split : Split) (wanted : List Wanted) (leaves made : List Kept) (after : Wholes) (error : StepError) → AreThere nodes job.given after job.plan split.rows.start split.mask ⊎ FailsInWholes nodes job split wanted leaves made error → LeavesWholes nodes job split wanted leaves made after error
row_leaves nodes job split wanted leaves made after (BadSegment segment) left = tt
row_leaves nodes job split wanted leaves made after (Unsupported list) left = left
row_leaves nodes job split wanted leaves made after (BadCode take row) left = left
row_leaves nodes job split wanted leaves made after (EvalFault row) left = left
row_leaves nodes job split wanted leaves made after Memory left = tt

-- the first rows have the fault, up to a place, and the leaves that they read are kept; or whole values have it
abbrev pub FirstFail : List Node → Job → Split → List Wanted → List Kept → List Kept → List Kept → StepError → Type 0
FirstFail nodes job split wanted leaves made new error =
    (to : ℕ) × AreLeavesKept nodes job (piece_of split 0 to) new × (((outside : Bytes) → UnlessList error (IsOf nodes job.offset wanted leaves made outside) → HasRowCause nodes job (piece_of split 0 to) outside error) ⊎ FailsInWholes nodes job split wanted leaves made error)

other : (X : Type 0) (error : StepError) → (error ≡ Memory → ⊥) → (error ≡ Memory) ⊎ X → X
other X error not (inl memory) = absurd (not memory)
other X error not (inr x) = x

pub first_leaves : (nodes : List Node) (job : Job) (split : Split) (wanted : List Wanted) (leaves made new : List Kept) (error : StepError) → (error ≡ Memory) ⊎ FirstFail nodes job split wanted leaves made new error → LeavesFirst nodes job split wanted leaves made new error
first_leaves nodes job split wanted leaves made new (BadSegment segment) fails = tt
first_leaves nodes job split wanted leaves made new (Unsupported list) fails = other (FirstFail nodes job split wanted leaves made new (Unsupported list)) (Unsupported list) (λ e. cc) fails
first_leaves nodes job split wanted leaves made new (BadCode take row) fails = other (FirstFail nodes job split wanted leaves made new (BadCode take row)) (BadCode take row) (λ e. cc) fails
first_leaves nodes job split wanted leaves made new (EvalFault row) fails = other (FirstFail nodes job split wanted leaves made new (EvalFault row)) (EvalFault row) (λ e. cc) fails
first_leaves nodes job split wanted leaves made new Memory fails = tt
