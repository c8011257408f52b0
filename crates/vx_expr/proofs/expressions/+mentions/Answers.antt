use Rattle.std.proofs.Common.{◌≡◌, true, ap, sym, ◌∙◌, arith}
use Rattle.vx_expr.specs.Counts.{nodes_in}
use Rattle.vx_expr.specs.Mentions.{mentions}
use Rattle.vx_expr.specs.TermViews.{term}
use Rattle.vx_expr.proofs.Pairs.{nodes_at, left_next}
use Rattle.vx_expr.proofs.expressions.+mentions.Goals as goal

pub NamedExprs::mentions-mentions-requires : goal.NamedExprs::mentions-mentions-requires
NamedExprs::mentions-mentions-requires t c = (omega (arith, nodes_at c.items-expr-items.result.now c.loop-expr.expr-index c.loop-expr-item.result c.loop-expr-test.true c.loop-expr-item.is, ap nodes_in c.items-expr-items.ensures), tt)

pub NamedExprs::mentions-returns-then-mentions : goal.NamedExprs::mentions-returns-then-mentions
NamedExprs::mentions-returns-then-mentions t c =
    let next = left_next c.items-expr-items.result.now c.loop-expr.expr-index c.loop-expr-item.result c.loop-expr-test.true c.loop-expr-item.is in
    let yes : mentions c.args.input (term c.loop-expr-item.result.1) ≡ true = sym c.mentions.ensures ∙ c.if-mentions.true in
    rw (next, yes) at c.loop-expr.invariant

pub NamedExprs::mentions-loop-expr-preserved : goal.NamedExprs::mentions-loop-expr-preserved
NamedExprs::mentions-loop-expr-preserved t c =
    let next = left_next c.items-expr-items.result.now c.loop-expr.expr-index c.loop-expr-item.result c.loop-expr-test.true c.loop-expr-item.is in
    let no = sym c.mentions.ensures ∙ c.if-mentions.false in
    rw (next, no) at c.loop-expr.invariant
