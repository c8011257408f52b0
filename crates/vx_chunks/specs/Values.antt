-- The reading of the whole values of a plan.
use Rattle.std.specs.Prelude.{◌≡◌, true, [], replicate, Some, Result, IfOk, IfErr}
use Rattle.vx_rows.specs.SegmentLeaves.{leaves_of}
use Rattle.vx_plan.specs.declared.children.PlanRef.{PlanRef}
use Rattle.vx_plan.specs.Plans.{plan_at}
use Rattle.vx_plan.specs.Refs.{number_of}
use Rattle.vx_plan.specs.Rules.{node_at}
use Rattle.vx_steps.specs.Given.{whole_value}
use Rattle.vx_steps.specs.Offers.{IsForPlan}
use Rattle.vx_splits.specs.declared.selected_rows.SelectedRows.{SelectedRows}
use Rattle.vx_drive.specs.declared.errors.ScanError.{ScanError}
use Rattle.vx_drive.specs.declared.plans.ScanPlans.{ScanPlans}
use Rattle.vx_drive.specs.Asks.{AsksOnly, Lasts, TellsFaults}
use Rattle.vx_drive.specs.Plans.{with_projection}
use Rattle.vx_chunks.specs.Outcomes.{told_by, Causes, IsWanted}
use Rattle.vx_base.specs.Columns.{ColumnData}
use Rattle.vx_base.specs.Sources.{SourceState}

-- all rows of a plan, as a chunk
abbrev pub all_rows : ScanPlans → PlanRef → SelectedRows
all_rows plans node = record {
  scope = record { file_ordinal = 0; rows = record { start = 0; end = (node_at plans.table (number_of node)).rows } };
  mask = replicate (node_at plans.table (number_of node)).rows true;
}

pub record RunsValues (plans : ScanPlans) (node : PlanRef) (result : Result ColumnData ScanError) (before after : SourceState) : Type 0 where
  -- the column has the plan's dtype and rows
  pub fits : IfOk result (λ column. IsForPlan plans.table (record { node = number_of node; column = column }))
  -- and is the plan's whole values by the file
  pub whole : IfOk result (λ column. told_by plans before (λ bytes. whole_value (leaves_of bytes) plans.row_offset (plan_at plans.table (number_of node)) ≡ Some column.values))
  -- each error has its cause in some row of the plan
  pub cause : IfErr result (λ error. Causes (told_by plans before) (with_projection plans node) [] (all_rows plans node) error before after)
  -- segments that the plan's rows read were asked for, each once
  pub asks : AsksOnly (IsWanted (with_projection plans node) [] [] (all_rows plans node)) plans.locations.items before after
  -- where a call on the source failed, that is the error
  pub faults : TellsFaults result before after
  pub lasts : Lasts before after
  pub in_flight : after.in_flight ≡ []
