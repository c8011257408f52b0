-- What one step of a scan says, as one fact.
use Rattle.std.proofs.Common.{◌≡◌, ◌≢◌, ℕ, ◌<◌, ◌⊎◌, inl, inr, ⊎_elim, Bool, true, false, List, Result, Ok, Err, refl, sym, subst}
use Rattle.vx_rows.specs.SegmentLeaves.{Bytes}
use Rattle.vx_steps.specs.declared.errors.StepError.{StepError}
use Rattle.vx_steps.specs.declared.errors.StepError.TheVariants as steps
use Rattle.vx_steps.specs.declared.progress.Turn.{Turn}
use Rattle.vx_steps.specs.declared.progress.Turn.TheVariants as turns
use Rattle.vx_steps.specs.declared.splits.Split.{Split}
use Rattle.vx_steps.specs.Computed.{UnlessList}
use Rattle.vx_steps.specs.Jobs.{IsTold, IsWantedBy, KeepsColumns, KeepsTold, KeepsWholesFor, WantsFor}
use Rattle.vx_steps.specs.ScanData.{ScanData, IsScanOf}
use Rattle.vx_steps.specs.Pieces.{piece_of}
use Rattle.vx_steps.specs.Steps.{GoesOn, HasSplitCause, IsSplitOutput, IsStepRefusal, LeavesFirstRows, LeavesRows, LeavesSplit, RefusesSplit, TakesTurn, work_left}
use Rattle.vx_steps.specs.Turns.{FailsInWholes}
use Rattle.vx_steps.specs.Wants.{Grows, IsAsked}
use Rattle.vx_steps.proofs.Finishing.{wholes_only}
use Rattle.vx_steps.proofs.Premises.{unless_by}
use Rattle.vx_drive.specs.declared.adaptor_errors.AdaptorError.{AdaptorError}
use Rattle.vx_drive.specs.declared.adaptor_errors.AdaptorError.TheVariants as errors
use Rattle.vx_drive.specs.Computes.{RefusesStep, StopCause}
use Rattle.vx_drive.specs.Continues.{KeepsScan, WantsReads}
use Rattle.vx_drive.specs.Batched.{work_in, GivesTurn, StepGives}
use Rattle.vx_drive.specs.Refusals.{refusal_of}
use Rattle.vx_drive.proofs.Continuing.{keeps_then}
use Rattle.vx_base.specs.Columns.{ColumnData}
use Rattle.vx_base.specs.declared.locations.SegmentLocation.{SegmentLocation}

-- ---- what a step keeps

pub step_keeps : (numbers : List ℕ) (old new : ScanData) → new.nodes ≡ old.nodes → new.job ≡ old.job → KeepsTold old.nodes old.job old.progress new.progress → Grows old.progress.reads.wanted new.progress.reads.wanted → KeepsColumns old.progress.leaves new.progress.leaves → KeepsWholesFor old.nodes old.job numbers old.progress.wholes new.progress.wholes →
    KeepsScan old new
step_keeps numbers old new nodes job told grows leaves wholes = record {
  nodes = nodes;
  job = job;
  told = λ outside is. subst (λ js. IsTold new.nodes js new.progress outside) (sym job) (subst (λ ns. IsTold ns old.job new.progress outside) (sym nodes) (told outside is));
  grows = grows;
  leaves = leaves;
  wholes = wholes_only old.nodes old.job numbers old.progress.wholes new.progress.wholes wholes;
}

-- what a step wants, for whichever splits
pub step_wants : (numbers : List ℕ) (old new : ScanData) → WantsFor old.nodes old.job numbers old.progress new.progress → WantsReads old new
step_wants numbers old new wants segment asked =
    ⊎_elim (λ (a : IsAsked old.progress.reads.wanted segment). inl a) (λ (w : IsWantedBy old.nodes old.job numbers old.progress.leaves segment). inr w.0) (wants segment asked)

-- the turn that a step takes
pub step_gives : (turn : Turn) (old new : ScanData) → KeepsScan old new → WantsReads old new → new.refused ≡ old.refused → (old.refused ≡ false → TakesTurn old.nodes old.job old.progress new.progress turn) → (old.refused ≡ true → (◌≡◌ {A = Result Turn StepError} (Ok turn) (Ok turns.Done)) × (new ≡ old)) →
    (GoesOn turn → work_left old.job new.progress < work_left old.job old.progress) → GivesTurn turn old new
step_gives turn old new keeps wants refused takes after lowers = record {
  scan = record { keeps = keeps; wants = wants; refused = refused };
  takes = by_refused old.refused refl;
  fewer = λ goes. subst (λ job. work_left job new.progress < work_in old) (sym keeps.job) (lowers goes);
}
  where
    by_refused : (b : Bool) → old.refused ≡ b → ((old.refused ≡ true) × (turn ≡ turns.Done) × (new ≡ old)) ⊎ ((old.refused ≡ false) × TakesTurn old.nodes old.job old.progress new.progress turn)
    by_refused true is = inl (is, (let same = (after is).0 in cc), (after is).1)
    by_refused false is = inr (is, takes is)

-- ---- what was said of a later scan, of an earlier one

told_at : (old middle : ScanData) (outside : Bytes) → KeepsScan old middle → IsScanOf old outside → IsTold old.nodes old.job middle.progress outside
told_at old middle outside keeps is = subst (λ js. IsTold old.nodes js middle.progress outside) keeps.job (subst (λ ns. IsTold ns middle.job middle.progress outside) keeps.nodes (keeps.told outside is))

pub output_before : (old middle : ScanData) (after : ScanData) (split : Split) (column : ColumnData) → KeepsScan old middle → IsSplitOutput middle.nodes middle.job middle.progress after.progress.wholes split column → IsSplitOutput old.nodes old.job old.progress after.progress.wholes split column
output_before old middle after split column keeps is =
    let here : IsSplitOutput old.nodes old.job middle.progress after.progress.wholes split column =
    subst (λ js. IsSplitOutput old.nodes js middle.progress after.progress.wholes split column) keeps.job (subst (λ ns. IsSplitOutput ns middle.job middle.progress after.progress.wholes split column) keeps.nodes is) in
    record {
      dtype = here.dtype;
      count = here.count;
      right = λ outside was. here.right outside (told_at old middle outside keeps was);
      there = here.there;
    }

-- ---- refusals

-- what a refusal leaves of whole values
left_before : (error : StepError) (old middle : ScanData) (after : ScanData) (split : Split) → KeepsScan old middle → LeavesSplit old.nodes old.job middle.progress after.progress.wholes split error → LeavesSplit old.nodes old.job old.progress after.progress.wholes split error
left_before (steps.BadSegment segment) old middle after split keeps leaves = tt
left_before steps.Memory old middle after split keeps leaves = tt
left_before (steps.Unsupported list) old middle after split keeps (inl there) = inl there
left_before (steps.Unsupported list) old middle after split keeps (inr inside) = inr (λ outside was. inside outside was)
left_before (steps.BadCode take at) old middle after split keeps (inl there) = inl there
left_before (steps.BadCode take at) old middle after split keeps (inr inside) = inr (λ outside was. inside outside (told_at old middle outside keeps was))
left_before (steps.EvalFault at) old middle after split keeps (inl there) = inl there
left_before (steps.EvalFault at) old middle after split keeps (inr inside) = inr (λ outside was. inside outside (told_at old middle outside keeps was))

-- the first rows of which have the fault, or it is one inside whole values
rows_before : (error : StepError) (old middle : ScanData) (after : ScanData) (split : Split) → KeepsScan old middle → LeavesFirstRows old.nodes old.job middle.progress after.progress split error → LeavesFirstRows old.nodes old.job old.progress after.progress split error
rows_before error old middle after split keeps leaves = (
  leaves.0,
  leaves.1,
  ⊎_elim
      (λ (cause : HasSplitCause old.nodes old.job middle.progress after.progress.reads.wanted (piece_of split 0 leaves.0) error). inl (λ outside was. cause outside (told outside was)))
      (λ (inside : FailsInWholes old.nodes old.job split middle.progress.reads.wanted middle.progress.leaves middle.progress.wholes.made error). inr (λ outside was. inside outside (told outside was)))
      leaves.2,
)
  where
    told : (outside : Bytes) → UnlessList error (IsTold old.nodes old.job old.progress outside) → UnlessList error (IsTold old.nodes old.job middle.progress outside)
    told outside was = unless_by error (IsScanOf old outside) (IsTold old.nodes old.job middle.progress outside) (told_at old middle outside keeps) was

-- and of leaves
leaves_before : (error : StepError) (old middle : ScanData) (after : ScanData) (split : Split) → KeepsScan old middle → LeavesRows old.nodes old.job middle.progress after.progress split error → LeavesRows old.nodes old.job old.progress after.progress split error
leaves_before (steps.BadSegment segment) old middle after split keeps leaves = tt
leaves_before steps.Memory old middle after split keeps leaves = tt
leaves_before (steps.Unsupported list) old middle after split keeps leaves = rows_before (steps.Unsupported list) old middle after split keeps leaves
leaves_before (steps.BadCode take at) old middle after split keeps leaves = rows_before (steps.BadCode take at) old middle after split keeps leaves
leaves_before (steps.EvalFault at) old middle after split keeps leaves = rows_before (steps.EvalFault at) old middle after split keeps leaves

refuses_before : (error : StepError) (old middle new : ScanData) → KeepsScan old middle → RefusesSplit middle.nodes middle.job middle.progress new.progress error → RefusesSplit old.nodes old.job old.progress new.progress error
refuses_before error old middle new keeps is =
    let here : RefusesSplit old.nodes old.job middle.progress new.progress error =
    subst (λ js. RefusesSplit old.nodes js middle.progress new.progress error) keeps.job (subst (λ ns. RefusesSplit ns middle.job middle.progress new.progress error) keeps.nodes is) in
    record {
      number = here.number;
      split = here.split;
      at = here.at;
      active = here.active;
      cause = λ outside was. here.cause outside (unless_by error (IsScanOf old outside) (IsTold old.nodes old.job middle.progress outside) (told_at old middle outside keeps) was);
      left = left_before error old middle new here.split keeps here.left;
      leaves = leaves_before error old middle new here.split keeps here.leaves;
    }

-- the refusal of a step as one of the adaptor
step_refuses : (error : StepError) (old new : ScanData) → KeepsScan old new → new.refused ≡ true → error ≢ steps.Memory → IsStepRefusal old.nodes old.job old.progress new.progress error → KeepsScan old new × RefusesStep error old new
step_refuses error old new keeps refused other (inl memory) = absurd (other memory)
step_refuses error old new keeps refused other (inr is) = (keeps, record { not_memory = other; refused = refused; cause = is })

pub refusal_gives : (error : StepError) (old new : ScanData) → KeepsScan old new → new.refused ≡ true → IsStepRefusal old.nodes old.job old.progress new.progress error → StepGives (Err (refusal_of error)) old new
refusal_gives steps.Memory old new keeps refused is = keeps
refusal_gives (steps.Unsupported list) old new keeps refused is = step_refuses (steps.Unsupported list) old new keeps refused (λ same. absurd cc) is
refusal_gives (steps.BadSegment segment) old new keeps refused is = step_refuses (steps.BadSegment segment) old new keeps refused (λ same. absurd cc) is
refusal_gives (steps.BadCode take at) old new keeps refused is = step_refuses (steps.BadCode take at) old new keeps refused (λ same. absurd cc) is
refusal_gives (steps.EvalFault at) old new keeps refused is = step_refuses (steps.EvalFault at) old new keeps refused (λ same. absurd cc) is

-- a refusal behind other steps
pub refused_behind : (locations : List SegmentLocation) (error : AdaptorError) (old middle new : ScanData) → KeepsScan old middle → StepGives (Err error) middle new → KeepsScan old new × StopCause locations error old new
refused_behind locations (errors.NoLocation segment) old middle new before gives = absurd gives
refused_behind locations errors.NotOutstanding old middle new before gives = absurd gives
refused_behind locations errors.Memory old middle new before gives = (keeps_then old middle new before gives, tt)
refused_behind locations (errors.Step error) old middle new before (keeps, is) =
    (keeps_then old middle new before keeps, record { not_memory = is.not_memory; refused = is.refused; cause = refuses_before error old middle new before is.cause })
