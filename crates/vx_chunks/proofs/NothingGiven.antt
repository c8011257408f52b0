-- With nothing given in place of whole values a row is derived as its plan says, and reads what the plan reads.
use Rattle.std.proofs.Common.{◌≡◌, ℕ, ◌+◌, [], sym, subst}
use Rattle.vx_rows.specs.Derivations.{Derivation}
use Rattle.vx_rows.specs.Given.{with_given}
use Rattle.vx_rows.specs.Reads.{directly, Found, reads_of, Finds, IsIn}
use Rattle.vx_plan.specs.Laws.{IsReadBy}
use Rattle.vx_plan.specs.Plans.{Plan}
use Rattle.vx_plan.specs.PlanRows.{plan_derivation, plan_reads}
use Rattle.vx_steps.specs.Given.{values_for}
use Rattle.vx_steps.specs.Laws.{HandsNone, row_reads}
use Rattle.vx_steps.proofs.ReadVisits.{no_columns}
use Rattle.vx_steps.proofs.VisitedReads.{none_served}
use Rattle.vx_splits.specs.declared.selected_rows.SelectedRows.{SelectedRows}
use Rattle.vx_drive.specs.declared.plans.ScanPlans.{ScanPlans}
use Rattle.vx_drive.specs.Plans.{projection_plan}
use Rattle.vx_chunks.specs.ChunkRows.{given_to, ChunkReaches}

pub none_given : (plans : ScanPlans) → HandsNone (given_to plans [])
none_given plans = no_columns plans.table

pub same_row : (plans : ScanPlans) (d : Derivation) → with_given (values_for (given_to plans [])) d ≡ d
same_row plans d = none_served (values_for (given_to plans [])) (none_given plans) d

-- what the plan reads, the row reads
pub free_reads : (P : Found → Type 0) (plans : ScanPlans) (offset : ℕ) (p : Plan) (row : ℕ) → Finds P (plan_reads offset p row) → Finds P (row_reads (given_to plans []) offset p row)
free_reads P plans offset p row any = subst (λ (d : Derivation). Finds P (reads_of directly d)) (sym (same_row plans (plan_derivation offset p row))) any

-- and no more
pub plain_reads : (P : Found → Type 0) (plans : ScanPlans) (offset : ℕ) (p : Plan) (row : ℕ) → Finds P (row_reads (given_to plans []) offset p row) → Finds P (plan_reads offset p row)
plain_reads P plans offset p row any = subst (λ (d : Derivation). Finds P (reads_of directly d)) (same_row plans (plan_derivation offset p row)) any

-- a segment that a selected row of the plan reads is reached
pub plan_reaches : (plans : ScanPlans) (chosen : SelectedRows) (segment : ℕ) → IsReadBy plans.row_offset segment (projection_plan plans) chosen.scope.rows.start chosen.mask → ChunkReaches plans chosen segment
plan_reaches plans chosen segment by = (by.row, by.chosen, free_reads (IsIn segment) plans plans.row_offset (projection_plan plans) (chosen.scope.rows.start + by.row) by.read)
