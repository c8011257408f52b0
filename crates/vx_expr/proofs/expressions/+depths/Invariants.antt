use Rattle.std.proofs.Common.{◌+◌, ◌*◌, ◌≤◌, drop}
use Rattle.std.specs.Prelude.{◌↔◌}
use Rattle.vx_expr.specs.Counts.{node_count, nodes_in, greatest_depth}
use Rattle.vx_expr.specs.TermViews.{term, terms_of}
use Rattle.vx_expr.proofs.expressions.+depths.Given as goal

abbrev pub decreases-Expr::is_within : goal.decreases-Expr::is_within
decreases-Expr::is_within l = 2 * node_count (term l.self.now)

abbrev pub decreases-NamedExprs::are_within : goal.decreases-NamedExprs::are_within
decreases-NamedExprs::are_within l = 2 * nodes_in l.self.now + 1

abbrev pub invariant-NamedExprs::are_within-loop-expr : goal.invariant-NamedExprs::are_within-loop-expr
invariant-NamedExprs::are_within-loop-expr l = (greatest_depth (terms_of (drop l.expr-index l.expr-items)) ≤ l.levels) ↔ (greatest_depth l.self ≤ l.levels)
