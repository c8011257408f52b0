-- Why a chunk has no piece, with the values in place of whole ones that were used alone.
use Rattle.std.proofs.Common.{◌≡◌, ℕ, ◌+◌, ◌⊎◌, ⊎_elim, List, [], Option, Some, None, Ok, Err, refl, subst}
use Rattle.std.specs.Prelude.{IfErr, IfSome, Result}
use Rattle.vx_base.specs.Columns.{ColumnData}
use Rattle.vx_base.specs.Sources.{SourceState}
use Rattle.vx_plan.specs.declared.children.PlanRef.{PlanRef}
use Rattle.vx_plan.specs.PlanRows.{plan_derivation}
use Rattle.vx_plan.specs.Refs.{number_of}
use Rattle.vx_plan.specs.Tables.{IsGoodTable}
use Rattle.vx_rows.specs.Derivations.{Derivation, Leaves}
use Rattle.vx_rows.specs.Given.{GivenValues}
use Rattle.vx_rows.specs.Reads.{directly, Found, reads_of, Finds, IsIn}
use Rattle.vx_rows.specs.SegmentLeaves.{leaves_of}
use Rattle.vx_splits.specs.declared.selected_rows.SelectedRows.{SelectedRows}
use Rattle.vx_steps.specs.declared.errors.StepError.TheVariants as step_errors
use Rattle.vx_steps.specs.Given.{given_for}
use Rattle.vx_steps.specs.Kept.{kept_at}
use Rattle.vx_steps.specs.KeptData.{Kept}
use Rattle.vx_steps.specs.Laws.{IsBadCodeAt, IsRowOf}
use Rattle.vx_steps.specs.ScanLaws.{IsTornIn}
use Rattle.vx_steps.specs.Visits.{HasBadCode, HasEvalFault}
use Rattle.vx_steps.specs.Wholes.{Inside}
use Rattle.vx_steps.proofs.CodeVisits.{code_found}
use Rattle.vx_steps.proofs.FreeVisits.{code_becomes, fault_becomes, none_same}
use Rattle.vx_steps.proofs.HandedRows.{typed_fit}
use Rattle.vx_steps.proofs.UsedValues.{used_serve}
use Rattle.vx_drive.specs.declared.errors.ScanError.{ScanError}
use Rattle.vx_drive.specs.declared.errors.ScanError.TheVariants.{BadProjection, OffsetOverflow, OutOfRange, Unsupported, NoLocation, ReadFault, Stalled, BadSegment, BadCode, EvalFault, Memory}
use Rattle.vx_drive.specs.declared.plans.ScanPlans.{ScanPlans}
use Rattle.vx_drive.specs.Plans.{bytes_of, projection_plan, ArePlans, IsChunkOf}
use Rattle.vx_drive.specs.Runs.{row_fault}
use Rattle.vx_drive.proofs.Lasting.{lasts_same}
use Rattle.vx_chunks.specs.declared.outcomes.ChunkOutcome.{ChunkOutcome}
use Rattle.vx_chunks.specs.ChunkRows.{given_to, ChunkFailsInside, ChunkFaultsAt, ChunkFinds, ChunkReadsBadCode}
use Rattle.vx_chunks.specs.Outcomes.{AreAllUsedOrMade, Causes, KeepsValues, RunsChunk, data_of, told_by}
use Rattle.vx_chunks.proofs.AddedValues.{AllStand, no_code_added}
use Rattle.vx_chunks.proofs.AddedVisits.{AreBehind, all_stand, lacks_as, first_of}
use Rattle.vx_chunks.proofs.ChunkScanning.{IsGoodChunk, good_chunk}
use Rattle.vx_chunks.proofs.FewerReads.{NoCode}
use Rattle.vx_chunks.proofs.HandedRuns.{error_as}
use Rattle.vx_workers.proofs.ValidatedCauses.{cause_free}
use Rattle.vx_scan.specs.ChunkLaws.{told_whole}
use Rattle.vx_scan.proofs.CarriedVisits.{carried, fault_alike}
use Rattle.vx_scan.proofs.ChunkLaws.{served, wholes_of}

-- used values are first of those and the given ones
used_first : (used given : Option ColumnData) → ((column : ColumnData) → used ≡ Some column → given ≡ Some column) → given ≡ first_of used given
used_first None given same = refl
used_first (Some column) given same = same column refl

module _ (plans : ScanPlans) (chosen : SelectedRows) (given : List Kept) (outcome : ChunkOutcome) (before : SourceState) (is : IsGoodChunk plans chosen) (keeps : KeepsValues plans given chosen outcome before) where
  abbrev used : List Kept
  used = data_of outcome.used.items

  abbrev with_used : GivenValues
  with_used = given_for plans.table used

  abbrev with_all : GivenValues
  with_all = given_for plans.table given

  behind : AreBehind used given given
  behind n = used_first (kept_at used n) (kept_at given n) (keeps.used n)

  stand : AllStand with_used with_all with_all
  stand = all_stand plans.table used given given behind

  lacks : (n : ℕ) → with_all n ≡ None → with_used n ≡ None
  lacks n = lacks_as (with_used n) (with_all n) (with_all n) (stand n)

  -- what is no code is read with the used values as well
  finds_used : (P : Found → Type 0) → NoCode P → ChunkFinds P plans given chosen → ChunkFinds P plans used chosen
  finds_used P out (place, at, any) = (place, at, no_code_added P out with_used with_all with_all stand (plan_derivation plans.row_offset (projection_plan plans) (chosen.scope.rows.start + place)) directly any)

  -- where all that the rows ask for is there, whatever is read is
  finds_served : (P : Found → Type 0) → AreAllUsedOrMade plans given chosen outcome → ChunkFinds P plans given chosen → ChunkFinds P plans used chosen
  finds_served P there (place, at, any) = (
    place,
    at,
    subst (λ (d : Derivation). Finds P (reads_of directly d))
        (used_serve plans.table is.good given (wholes_of outcome) plans.row_offset (number_of plans.projection) chosen.scope.rows.start chosen.mask is.known (served plans chosen given outcome before keeps there) place at) any,
  )

  faults_served : (leaves : Leaves) (row : ℕ) → AreAllUsedOrMade plans given chosen outcome → ChunkFaultsAt leaves plans given chosen row → ChunkFaultsAt leaves plans used chosen row
  faults_served leaves row there (place, at, v) = (
    place,
    at,
    carried plans.row_offset with_all with_used (HasEvalFault leaves plans.row_offset row) (HasEvalFault leaves plans.row_offset row) (Unit {0}) lacks
        (λ p at_row alike. fault_alike leaves plans.row_offset row with_all with_used p at_row (alike tt))
        (fault_becomes leaves plans.row_offset row None None (none_same leaves plans.row_offset)) (projection_plan plans) (chosen.scope.rows.start + place)
        (λ a. used_serve plans.table is.good given (wholes_of outcome) plans.row_offset (number_of plans.projection) chosen.scope.rows.start chosen.mask is.known (served plans chosen given outcome before keeps there) place at) v,
  )

  -- a fault inside whole values is one with the used values as well
  faults_inside : (leaves : Leaves) (row : ℕ) → ChunkFailsInside leaves plans given chosen (step_errors.EvalFault row) → ChunkFaultsAt leaves plans used chosen row
  faults_inside leaves row (place, at, v) = (
    place,
    at,
    carried plans.row_offset with_all with_used (Inside (HasEvalFault leaves plans.row_offset row)) (HasEvalFault leaves plans.row_offset row) ⊥ lacks (λ p at_row alike v. absurd v)
        (fault_becomes leaves plans.row_offset row None None (none_same leaves plans.row_offset)) (projection_plan plans) (chosen.scope.rows.start + place) (λ a. absurd a) v,
  )

  code_inside : (leaves : Leaves) (take : PlanRef) (row : ℕ) → ChunkFailsInside leaves plans given chosen (step_errors.BadCode take row) → ChunkReadsBadCode leaves plans used chosen (number_of take) row
  code_inside leaves take row (place, at, v) = (
    place,
    at,
    code_found leaves (given_to plans used) plans.row_offset (projection_plan plans) directly (chosen.scope.rows.start + place) (number_of take) row (typed_fit plans.table is.good used keeps.typed_used (number_of plans.projection) is.known)
        (carried plans.row_offset with_all with_used (Inside (HasBadCode leaves plans.row_offset (number_of take) row)) (HasBadCode leaves plans.row_offset (number_of take) row) ⊥ lacks (λ p at_row alike v. absurd v)
        (code_becomes leaves plans.row_offset (number_of take) row None None (none_same leaves plans.row_offset)) (projection_plan plans) (chosen.scope.rows.start + place) (λ a. absurd a) v),
  )

  -- what the run left of a fault of rows
  abbrev LeftFault : ScanError → Type 0
  LeftFault error = IfSome (row_fault error) (λ fault. AreAllUsedOrMade plans given chosen outcome ⊎ told_by plans before (λ bytes. ChunkFailsInside (leaves_of bytes) plans given chosen fault))

  used_cause : (error : ScanError) (after : SourceState) → LeftFault error → Causes (told_by plans before) plans given chosen error before after → Causes (told_by plans before) plans used chosen error before after
  used_cause BadProjection after left cause = cause
  used_cause OffsetOverflow after left cause = cause
  used_cause OutOfRange after left cause = cause
  used_cause (Unsupported list) after left cause = finds_used (IsRowOf (number_of list)) (λ code row. row) cause
  used_cause (NoLocation segment) after left cause = (finds_used (IsIn segment) (λ code here. here) cause.0, cause.1)
  used_cause ReadFault after left cause = cause
  used_cause Stalled after left cause = cause
  used_cause (BadSegment segment) after left cause = λ file told. finds_used (IsTornIn (bytes_of plans file) segment) (λ code torn. torn) (cause file told)
  used_cause (BadCode take row) after left cause =
      ⊎_elim (λ (there : AreAllUsedOrMade plans given chosen outcome) (file : List ℕ) (told : before.file ≡ Some file). finds_served (IsBadCodeAt (leaves_of (bytes_of plans file)) (number_of take) row) there (cause file told))
      (λ (inside : told_by plans before (λ bytes. ChunkFailsInside (leaves_of bytes) plans given chosen (step_errors.BadCode take row))) (file : List ℕ) (told : before.file ≡ Some file). code_inside (leaves_of (bytes_of plans file)) take row (inside file told)) left
  used_cause (EvalFault row) after left cause =
      ⊎_elim (λ (there : AreAllUsedOrMade plans given chosen outcome) (file : List ℕ) (told : before.file ≡ Some file). faults_served (leaves_of (bytes_of plans file)) row there (cause file told))
      (λ (inside : told_by plans before (λ bytes. ChunkFailsInside (leaves_of bytes) plans given chosen (step_errors.EvalFault row))) (file : List ℕ) (told : before.file ≡ Some file). faults_inside (leaves_of (bytes_of plans file)) row (inside file told)) left
  used_cause Memory after left cause = tt

-- both are so of an error
both_err : {X : Type 0} (piece : Result X ScanError) (P Q R : ScanError → Type 0) → ((error : ScanError) → P error → Q error → R error) → IfErr piece P → IfErr piece Q → IfErr piece R
both_err (Ok x) P Q R f one two = tt
both_err (Err error) P Q R f one two = f error one two

pub used_have_cause : (plans : ScanPlans) → IsGoodTable plans.table → ArePlans plans → (chosen : SelectedRows) → IsChunkOf plans chosen → (given : List Kept) (outcome : ChunkOutcome) (before after : SourceState)
    → RunsChunk plans chosen given outcome before after → IfErr outcome.piece (λ error. Causes (told_by plans before) plans (data_of outcome.used.items) chosen error before after)
used_have_cause plans good are chosen is given outcome before after runs =
    both_err outcome.piece (LeftFault plans chosen runs.fitting outcome before (good_chunk plans chosen good are.known is) runs.values) (λ error. Causes (told_by plans before) plans runs.fitting chosen error before after)
    (λ error. Causes (told_by plans before) plans (data_of outcome.used.items) chosen error before after)
    (λ error left cause. used_cause plans chosen runs.fitting outcome before (good_chunk plans chosen good are.known is) runs.values error after left cause) runs.values.left runs.cause

pub whole_have_cause : (plans : ScanPlans) → IsGoodTable plans.table → ArePlans plans → (chosen : SelectedRows) → IsChunkOf plans chosen → (given : List Kept) (outcome : ChunkOutcome) (before after : SourceState)
    → RunsChunk plans chosen given outcome before after → IfErr outcome.piece (λ error. Causes (told_whole plans (data_of outcome.used.items) before) plans [] chosen error before after)
whole_have_cause plans good are chosen is given outcome before after runs =
    error_as outcome.piece (λ error. Causes (told_by plans before) plans (data_of outcome.used.items) chosen error before after) (λ error. Causes (told_whole plans (data_of outcome.used.items) before) plans [] chosen error before after)
    (λ error cause. cause_free (told_by plans before) (told_whole plans (data_of outcome.used.items) before) plans chosen (data_of outcome.used.items) error before before after
    (λ P Q to holds file told whole. to (bytes_of plans file) whole (holds file told)) (good_chunk plans chosen good are.known is) runs.values.typed_used (lasts_same before) cause)
    (used_have_cause plans good are chosen is given outcome before after runs)
