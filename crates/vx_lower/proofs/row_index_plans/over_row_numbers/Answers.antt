use Rattle.std.proofs.Common.{ap, ◌∙◌, subst}
use Rattle.std.proofs.lemmas.Result.{IfOk-weaker}
use Rattle.vx_expr.specs.Bound.{Bound}
use Rattle.vx_expr.specs.Mentions.{uses_row_number}
use Rattle.vx_plan.specs.Refs.{number_of}
use Rattle.vx_plan.specs.Rules.{eval_node}
use Rattle.vx_plan.specs.Tables.{IsAdded}
use Rattle.vx_lower.proofs.NoRowNumber.{none_as_root}
use Rattle.vx_lower.proofs.OverPlans.{planned_over_numbers}
use Rattle.vx_lower.proofs.row_index_plans.over_row_numbers.Goals as goal

pub add_eval-requires-clause-unnumbered : goal.add_eval-requires-clause-unnumbered
add_eval-requires-clause-unnumbered c = ap (λ (b : Bound). uses_row_number b.term) c.in_ok-over_numbers.ensures ∙ none_as_root c.args.expression.now.term

pub returns-clause-planned : goal.returns-clause-planned
returns-clause-planned c =
    IfOk-weaker c.add_eval.result _ _
    (λ plan added.
    planned_over_numbers c.args.table.now c.add_row_numbers.new.table c.add_eval.new.table c.args.expression.now (number_of c.args.child) c.row_count-row_count.result (number_of c.in_ok-numbers.numbers) (number_of plan) c.requires.good c.requires.known c.row_count-row_count.ensures c.requires.rootless c.requires.numbered c.in_ok-numbers.ensures.added
    (subst (λ (b : Bound). IsAdded c.add_row_numbers.new.table c.add_eval.new.table (eval_node c.add_row_numbers.new.table b (number_of c.in_ok-numbers.numbers)) (number_of plan)) c.in_ok-over_numbers.ensures added))
    c.add_eval.ensures.added
