-- The run of a chunk with whole values that its worker borrows, and what the worker keeps of it.
use Rattle.std.specs.Prelude.{◌≡◌, ◌≢◌, ℕ, ◌⊎◌, Bool, true, false, List, [], ◌∷◌, ◌++◌, Some, Result, Ok, Err, IfErr}
use Rattle.std.specs.List.{AllByRecursion}
use Rattle.std.specs.Global.{Vec}
use Rattle.vx_rows.specs.Reads.{IsAmong}
use Rattle.vx_plan.specs.Nodes.{Node}
use Rattle.vx_steps.specs.KeptData.{Kept}
use Rattle.vx_steps.specs.Offers.{IsForPlan}
use Rattle.vx_steps.specs.declared.kept.KeptValue.{KeptValue}
use Rattle.vx_splits.specs.declared.selected_rows.SelectedRows.{SelectedRows}
use Rattle.vx_drive.specs.declared.errors.ScanError.{ScanError}
use Rattle.vx_drive.specs.declared.plans.ScanPlans.{ScanPlans}
use Rattle.vx_chunks.specs.declared.outcomes.HandedOn.{HandedOn}
use Rattle.vx_chunks.specs.Outcomes.{data_of, AreAllThere, IsGivenOrMade, RunsOn}
use Rattle.vx_workers.specs.declared.borrowing.Shared.{Shared}
use Rattle.vx_workers.specs.declared.worker_states.WorkerState.{WorkerState}
use Rattle.vx_workers.specs.Borrowers.{AreBorrowed, RestsOnValues}
use Rattle.vx_base.specs.Columns.{ColumnData}
use Rattle.vx_base.specs.Sources.{SourceState}

-- Whole values of some of these plans, each of its plan's dtype and rows.
pub record AreOfPlans (nodes : List Node) (numbers : List ℕ) (values : List Kept) : Type 0 where
  pub fit : AllByRecursion (IsForPlan nodes) values
  pub among : AllByRecursion (λ (one : Kept). IsAmong one.node numbers) values

-- whole values of the plan stand behind the others, of its dtype and rows, or they are as they were
abbrev pub BorrowsOne : List Node → ℕ → List Kept → List Kept → Type 0
BorrowsOne nodes number old new = (new ≡ old) ⊎ ((one : Kept) × (one.node ≡ number) × IsForPlan nodes one × (new ≡ old ++ one ∷ []))

-- all of these whole values are given or were made
abbrev pub AreHad : List ℕ → List Kept → List Kept → Type 0
AreHad numbers given made = (n : ℕ) → IsAmong n numbers → IsGivenOrMade given made n

-- The values that the result rests on: all that the chunk ran with; or none, where some that it asks for are neither given
-- nor were made, and it failed as whole values may.
abbrev pub RestsOn : Result ColumnData ScanError → List ℕ → List Kept → List KeptValue → List KeptValue → Type 0
RestsOn piece asked made given left =
    ((left ≡ given) × IfErr piece (λ error. RestsOnValues error → AreHad asked (data_of given) made))
    ⊎ ((left ≡ []) × ((error : ScanError) × (piece ≡ Err error) × RestsOnValues error × (AreHad asked (data_of given) made → ⊥)))

-- The chunk ran with what was handed on, and with values that it borrowed in place of whole ones; with none, where nothing
-- is shared, or where it failed inside of whole values. Where it borrowed some and failed as a wrong value may make it,
-- all that it asks for were borrowed or made.
pub record RunsShared (shares : Bool) (plans : ScanPlans) (chosen : SelectedRows) (handed : HandedOn) (shared : Shared) (before after : SourceState) : Type 0 where
  pub borrowed : AreBorrowed plans chosen (data_of shared.borrowed.items)
  pub alone : shares ≡ false → shared.borrowed.items ≡ []
  pub runs : RunsOn plans chosen handed (data_of shared.borrowed.items) shared.ran before after
  pub had : shared.borrowed.items ≢ [] → IfErr shared.ran.piece (λ error. RestsOnValues error → AreAllThere plans (data_of shared.borrowed.items) (data_of shared.ran.handed.made.items) chosen)

-- The piece is listed where nothing was borrowed; the borrower where something was and the result may rest on it; else
-- the error is, and the worker stops.
abbrev pub RecordsOutcome : ℕ → Result ColumnData ScanError → Vec KeptValue → Bool → WorkerState → WorkerState → Type 0
RecordsOutcome number piece borrowed goes_on old new =
    ((goes_on ≡ true) × (borrowed.items ≡ []) × ((column : ColumnData) × (piece ≡ Ok column) × (new ≡ record old { pieces = new.pieces }) × (new.pieces.items ≡ old.pieces.items ++ record { chunk = number; column = column } ∷ [])))
    ⊎ (((goes_on ≡ true) × (borrowed.items ≢ []) × IfErr piece RestsOnValues × (new ≡ record old { borrowers = new.borrowers }) × (new.borrowers.items ≡ old.borrowers.items ++ record { chunk = number; borrowed = borrowed; result = piece } ∷ []))
    ⊎ ((goes_on ≡ false) × ((error : ScanError) × (piece ≡ Err error) × ((borrowed.items ≡ []) ⊎ (RestsOnValues error → ⊥)) × (new ≡ record old { error = Some (record { chunk = number; error = error }) }))))
