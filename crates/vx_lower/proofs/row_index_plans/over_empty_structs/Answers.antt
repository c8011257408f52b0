use Rattle.std.proofs.Common.{subst}
use Rattle.std.proofs.lemmas.Result.{IfOk-weaker}
use Rattle.vx_expr.specs.Bound.{Bound}
use Rattle.vx_plan.specs.Refs.{number_of}
use Rattle.vx_plan.specs.Rules.{eval_node}
use Rattle.vx_plan.specs.Tables.{IsAdded}
use Rattle.vx_lower.proofs.OverPlans.{planned_over_structs}
use Rattle.vx_lower.proofs.row_index_plans.over_empty_structs.Goals as goal

pub returns-clause-planned : goal.returns-clause-planned
returns-clause-planned c =
    IfOk-weaker c.add_eval.result _ _
    (λ plan added.
    planned_over_structs c.args.table.now c.add_empty_structs.new.table c.add_eval.new.table c.args.expression.now (number_of c.args.child) c.row_count-row_count.result (number_of c.in_ok-structs.structs) (number_of plan) c.requires.good c.requires.known c.row_count-row_count.ensures c.requires.rootless c.requires.unnumbered c.in_ok-structs.ensures.added
    (subst (λ (b : Bound). IsAdded c.add_empty_structs.new.table c.add_eval.new.table (eval_node c.add_empty_structs.new.table b (number_of c.in_ok-structs.structs)) (number_of plan)) c.in_ok-copied.ensures added))
    c.add_eval.ensures.added
