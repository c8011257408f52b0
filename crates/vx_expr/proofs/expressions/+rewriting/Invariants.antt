use Rattle.std.proofs.Common.{◌≡◌, ◌+◌, ◌*◌, take}
use Rattle.vx_expr.specs.Counts.{node_count, nodes_in}
use Rattle.vx_expr.specs.Rewritten.{rewritten_in}
use Rattle.vx_expr.specs.TermViews.{term, terms_of}
use Rattle.vx_expr.proofs.expressions.+rewriting.Given as goal

abbrev pub decreases-Expr::rewritten : goal.decreases-Expr::rewritten
decreases-Expr::rewritten l = 4 * node_count (term l.self.now) + 1

abbrev pub decreases-Expr::rewritten_pair : goal.decreases-Expr::rewritten_pair
decreases-Expr::rewritten_pair l = 4 * node_count (term l.self.now)

abbrev pub decreases-NamedExprs::rewritten : goal.decreases-NamedExprs::rewritten
decreases-NamedExprs::rewritten l = 4 * nodes_in l.self.now + 2

abbrev pub decreases-Operand::rewritten : goal.decreases-Operand::rewritten
decreases-Operand::rewritten l = 4 * node_count l.self.now + 2

abbrev pub invariant-NamedExprs::rewritten-loop-name : goal.invariant-NamedExprs::rewritten-loop-name
invariant-NamedExprs::rewritten-loop-name l = terms_of l.built.items ≡ rewritten_in l.leaves (terms_of (take l.name-index l.items))
