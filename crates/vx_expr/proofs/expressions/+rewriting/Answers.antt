use Rattle.std.proofs.Common.{ap, ◌∙◌, arith}
use Rattle.vx_expr.specs.Counts.{nodes_in}
use Rattle.vx_expr.specs.TermViews.{terms_of}
use Rattle.vx_expr.proofs.BuiltPairs.{rewritten_more}
use Rattle.vx_expr.proofs.Pairs.{nodes_at}
use Rattle.vx_expr.proofs.expressions.+rewriting.Goals as goal

pub NamedExprs::rewritten-rewritten-requires : goal.NamedExprs::rewritten-rewritten-requires
NamedExprs::rewritten-rewritten-requires t c = (omega (arith, nodes_at c.items-items.result.now c.loop-name.name-index c.loop-name-item.result c.loop-name-test.true c.loop-name-item.is, ap nodes_in c.items-items.ensures), tt)

pub NamedExprs::rewritten-loop-name-preserved : goal.NamedExprs::rewritten-loop-name-preserved
NamedExprs::rewritten-loop-name-preserved t c =
    ap terms_of c.in_ok-push.ensures.items
    ∙ rewritten_more c.args.leaves c.loop-name.built.items c.items-items.result.now c.loop-name.name-index c.loop-name-item.result c.in_ok-name.name c.in_ok-expr.expr c.loop-name-test.true c.loop-name-item.is c.in_ok-name.ensures c.in_ok-expr.ensures c.loop-name.invariant
