-- A chunk that is refused before it runs, for what its rows read.
use Rattle.std.proofs.Common.{◌≡◌, inl, inr, Bool, [], Err, refl, sym, ap, subst}
use Rattle.std.specs.Prelude.{IfSome}
use Rattle.vx_steps.specs.declared.errors.StepError.{StepError}
use Rattle.vx_splits.specs.declared.selected_rows.SelectedRows.{SelectedRows}
use Rattle.vx_drive.specs.declared.errors.ScanError.{ScanError}
use Rattle.vx_drive.specs.declared.errors.ScanError.TheVariants.{BadProjection, OffsetOverflow, OutOfRange, Unsupported, NoLocation, ReadFault, Stalled, BadSegment, BadCode, EvalFault, Memory}
use Rattle.vx_drive.specs.declared.plans.ScanPlans.{ScanPlans}
use Rattle.vx_drive.specs.Runs.{row_fault}
use Rattle.vx_chunks.specs.declared.outcomes.HandedOn.{HandedOn}
use Rattle.vx_chunks.specs.declared.outcomes.Ran.{Ran}
use Rattle.vx_chunks.specs.Outcomes.{CanHandOn, Causes, Claims, IsWanted, RunsOn, data_of, told_on}
use Rattle.vx_chunks.proofs.ChunkOutcomes.{asks_nothing, lasts_cleared}
use Rattle.vx_workers.specs.declared.borrowing.Shared.{Shared}
use Rattle.vx_workers.specs.Hindered.{IsHinderedBy, RunsIfUnhindered}
use Rattle.vx_workers.proofs.Borrowed.{shared_none}
use Rattle.vx_base.specs.Sources.{SourceState, Cleared}

hindered_cause : (Told : Claims) (plans : ScanPlans) (chosen : SelectedRows) (error : ScanError) (before after : SourceState) → IsHinderedBy plans chosen error → Causes Told plans [] chosen error before after
hindered_cause Told plans chosen BadProjection before after is = absurd is
hindered_cause Told plans chosen OffsetOverflow before after is = absurd is
hindered_cause Told plans chosen OutOfRange before after is = absurd is
hindered_cause Told plans chosen (Unsupported list) before after is = is
hindered_cause Told plans chosen (NoLocation segment) before after is = is
hindered_cause Told plans chosen ReadFault before after is = absurd is
hindered_cause Told plans chosen Stalled before after is = absurd is
hindered_cause Told plans chosen (BadSegment segment) before after is = absurd is
hindered_cause Told plans chosen (BadCode take row) before after is = absurd is
hindered_cause Told plans chosen (EvalFault row) before after is = absurd is
hindered_cause Told plans chosen Memory before after is = absurd is

-- it is no fault of rows
no_fault : (P : StepError → Type 0) (plans : ScanPlans) (chosen : SelectedRows) (error : ScanError) → IsHinderedBy plans chosen error → IfSome (row_fault error) P
no_fault P plans chosen BadProjection is = absurd is
no_fault P plans chosen OffsetOverflow is = absurd is
no_fault P plans chosen OutOfRange is = absurd is
no_fault P plans chosen (Unsupported list) is = tt
no_fault P plans chosen (NoLocation segment) is = tt
no_fault P plans chosen ReadFault is = absurd is
no_fault P plans chosen Stalled is = absurd is
no_fault P plans chosen (BadSegment segment) is = absurd is
no_fault P plans chosen (BadCode take row) is = absurd is
no_fault P plans chosen (EvalFault row) is = absurd is
no_fault P plans chosen Memory is = absurd is

refused_on : (plans : ScanPlans) (chosen : SelectedRows) (handed : HandedOn) (error : ScanError) (before after : SourceState) → CanHandOn plans handed → IsHinderedBy plans chosen error → Cleared before after → RunsOn plans chosen handed [] (record { piece = Err error; handed = handed }) before after
refused_on plans chosen handed error before after can is clears = record {
  fitting = [];
  fits = inl refl;
  all = data_of handed.made.items;
  stand = record { has_given = λ n kept. let none = kept.1 in absurd cc; has_made = λ n known asks kept. kept };
  runs = record {
    content = tt;
    cause = hindered_cause (told_on plans handed before) plans chosen error before after is;
    asks = asks_nothing (IsWanted plans (data_of handed.made.items) (data_of handed.leaves.items) chosen) plans.locations.items before after clears.asked;
    more = record {
      can = can;
      by_file = λ file told by. by;
      stays = λ n column known at. at;
      there = tt;
      left = no_fault _ plans chosen error is;
      leaves_stay = λ leaf read kept. kept;
      leaves_there = tt;
    };
    faults = inl clears.faults;
    lasts = lasts_cleared before after clears;
    in_flight = clears.in_flight;
  };
}

pub runs_refused : (shares : Bool) (plans : ScanPlans) (chosen : SelectedRows) (handed : HandedOn) (shared : Shared) (error : ScanError) (before after : SourceState) → CanHandOn plans handed → IsHinderedBy plans chosen error → shared.ran ≡ record { piece = Err error; handed = handed } → shared.borrowed.items ≡ [] → Cleared before after
    → RunsIfUnhindered shares plans chosen handed shared before after
runs_refused shares plans chosen handed shared error before after can is ran none clears = record {
  runs = shared_none shares plans chosen handed [] shared before after refl none (subst (λ (r : Ran). RunsOn plans chosen handed [] r before after) (sym ran) (refused_on plans chosen handed error before after can is clears));
  unhindered = inr (record { alone = none; error = error; failed = ap (λ (r : Ran). r.piece) ran; asked = clears.asked });
}
