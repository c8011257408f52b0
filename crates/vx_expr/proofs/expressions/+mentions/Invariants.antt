use Rattle.std.proofs.Common.{◌≡◌, ◌+◌, ◌*◌, drop}
use Rattle.vx_expr.specs.Counts.{node_count, nodes_in}
use Rattle.vx_expr.specs.Mentions.{mentions_in}
use Rattle.vx_expr.specs.TermViews.{term, terms_of}
use Rattle.vx_expr.proofs.expressions.+mentions.Given as goal

abbrev pub decreases-Expr::mentions : goal.decreases-Expr::mentions
decreases-Expr::mentions l = 2 * node_count (term l.self.now)

abbrev pub decreases-NamedExprs::mentions : goal.decreases-NamedExprs::mentions
decreases-NamedExprs::mentions l = 2 * nodes_in l.self.now + 1

abbrev pub invariant-NamedExprs::mentions-loop-expr : goal.invariant-NamedExprs::mentions-loop-expr
invariant-NamedExprs::mentions-loop-expr l = mentions_in l.input (terms_of (drop l.expr-index l.expr-items)) ≡ mentions_in l.input l.self
