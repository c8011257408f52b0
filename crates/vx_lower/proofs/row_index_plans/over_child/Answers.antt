use Rattle.std.proofs.Common.{subst}
use Rattle.std.proofs.lemmas.Result.{IfOk-weaker}
use Rattle.vx_expr.specs.Bound.{Bound}
use Rattle.vx_plan.specs.Refs.{number_of}
use Rattle.vx_plan.specs.Rules.{eval_node}
use Rattle.vx_plan.specs.Tables.{IsAdded}
use Rattle.vx_lower.proofs.OverPlans.{planned_over_child}
use Rattle.vx_lower.proofs.row_index_plans.over_child.Goals as goal

pub returns-clause-planned : goal.returns-clause-planned
returns-clause-planned c =
    IfOk-weaker c.add_eval.result _ _
    (λ plan added.
    planned_over_child c.args.table.now c.add_eval.new.table c.args.expression.now (number_of c.args.child) (number_of plan) c.requires.good c.requires.known c.requires.rooted c.requires.unnumbered
    (subst (λ (b : Bound). IsAdded c.args.table.now c.add_eval.new.table (eval_node c.args.table.now b (number_of c.args.child)) (number_of plan)) c.in_ok-copied.ensures added))
    c.add_eval.ensures.added
