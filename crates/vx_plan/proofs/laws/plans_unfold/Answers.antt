use Rattle.std.proofs.Common.{◌++◌}
use Rattle.vx_plan.proofs.Adding.{head_in_table, stays}
use Rattle.vx_plan.proofs.FittingPlans.{rows_fit}
use Rattle.vx_plan.proofs.Unfolding.{have_earlier, plan_unfolds}
use Rattle.vx_plan.proofs.laws.plans_unfold.Goals as goal

pub returns : goal.returns
returns c = record {
  unfolds = λ nodes good n. plan_unfolds nodes (have_earlier nodes good) n;
  stays = λ nodes more good n lt. stays nodes more (have_earlier (nodes ++ more) good) n lt;
  head = head_in_table;
  rows = rows_fit;
}
