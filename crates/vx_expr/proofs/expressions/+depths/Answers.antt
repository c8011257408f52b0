use Rattle.std.proofs.Common.{ap, arith}
use Rattle.vx_expr.specs.Counts.{nodes_in, greatest_depth}
use Rattle.vx_expr.proofs.Pairs.{nodes_at, left_next}
use Rattle.vx_expr.proofs.expressions.+depths.Goals as goal

pub NamedExprs::are_within-is_within-requires : goal.NamedExprs::are_within-is_within-requires
NamedExprs::are_within-is_within-requires t c = (omega (arith, nodes_at c.items-expr-items.result.now c.loop-expr.expr-index c.loop-expr-item.result c.loop-expr-test.true c.loop-expr-item.is, ap nodes_in c.items-expr-items.ensures), tt)

pub NamedExprs::are_within-returns-then-not-is_within : goal.NamedExprs::are_within-returns-then-not-is_within
NamedExprs::are_within-returns-then-not-is_within t c =
    let next = ap greatest_depth (left_next c.items-expr-items.result.now c.loop-expr.expr-index c.loop-expr-item.result c.loop-expr-test.true c.loop-expr-item.is) in
    (λ h. absurd cc, λ h. let all = c.loop-expr.invariant.1 h in let yes = c.is_within.ensures.1 (omega arith) in absurd cc)

pub NamedExprs::are_within-loop-expr-preserved : goal.NamedExprs::are_within-loop-expr-preserved
NamedExprs::are_within-loop-expr-preserved t c =
    let next = ap greatest_depth (left_next c.items-expr-items.result.now c.loop-expr.expr-index c.loop-expr-item.result c.loop-expr-test.true c.loop-expr-item.is) in
    let here = c.is_within.ensures.0 cc in
    (λ h. c.loop-expr.invariant.0 (omega arith), λ h. let all = c.loop-expr.invariant.1 h in omega arith)
