use Rattle.vx_rows.specs.Reads.{directly}
use Rattle.vx_plan.specs.PlanRows.{plan_derivation}
use Rattle.vx_steps.specs.Given.{values_for}
use Rattle.vx_steps.proofs.ReadVisits.{leaf_visit, list_visit, no_columns, no_more_segments, plan_leaf_visit}
use Rattle.vx_steps.proofs.VisitedReads.{leaf_found, list_found}
use Rattle.vx_steps.proofs.laws.visits_are_reads.Goals as goal

pub returns : goal.returns
returns c = record {
  leaves = λ handed offset p row read v. leaf_found handed offset p directly row read v;
  only = λ handed offset p row read v. no_more_segments (values_for handed) (plan_derivation offset p row) directly read.segment (leaf_found handed offset p directly row read v);
  each = λ handed offset p row segment fit less any. leaf_visit handed offset p directly row segment fit less any;
  all = plan_leaf_visit;
  none = no_columns;
  lists = λ handed offset p row n v. list_found handed offset p directly row n v;
  list_reads = λ handed offset p row n fit less any. list_visit handed offset p directly row n fit less any;
}
