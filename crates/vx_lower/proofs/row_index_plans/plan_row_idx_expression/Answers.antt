use Rattle.vx_plan.specs.Refs.{number_of}
use Rattle.vx_lower.proofs.OverPlans.{worth_over}
use Rattle.vx_lower.proofs.row_index_plans.plan_row_idx_expression.Goals as goal

pub returns-in-Ok-clause-value : goal.returns-in-Ok-clause-value
returns-in-Ok-clause-value c = worth_over c.args.table.now c.plan_bound.new.table c.args.expression.now (number_of c.args.child) (number_of c.in-Ok.plan) c.in-Ok.ensures.planned
