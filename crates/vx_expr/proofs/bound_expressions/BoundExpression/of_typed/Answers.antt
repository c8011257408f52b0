use Rattle.std.proofs.Common.{◌∙◌, sym}
use Rattle.std.proofs.lemmas.Result.{IfOk-weaker}
use Rattle.vx_expr.specs.Types.{type_of}
use Rattle.vx_expr.proofs.bound_expressions.BoundExpression.of_typed.Goals as goal

pub returns-clause-term : goal.returns-clause-term
returns-clause-term c = IfOk-weaker c.of_parts.result _ _ (λ bound is. is ∙ c.in_ok-expr.ensures) c.of_parts.ensures.term

pub returns-clause-root : goal.returns-clause-root
returns-clause-root c = IfOk-weaker c.of_parts.result _ _ (λ bound is. is ∙ c.in_ok-root.ensures) c.of_parts.ensures.root

pub returns-clause-dtype : goal.returns-clause-dtype
returns-clause-dtype c = IfOk-weaker c.of_parts.result _ _ (λ bound is. (λ i. type_of (sym c.in_ok-root.ensures i) (sym c.in_ok-expr.ensures i)) ∙ is) c.of_parts.ensures.dtype
