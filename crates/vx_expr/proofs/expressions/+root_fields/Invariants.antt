use Rattle.std.proofs.Common.{ℕ, ◌+◌, ◌*◌, Bool, List, drop}
use Rattle.vx_expr.specs.Collected.{Collects}
use Rattle.vx_expr.specs.Counts.{node_count, nodes_in}
use Rattle.vx_expr.specs.Mentions.{root_fields_in}
use Rattle.vx_expr.specs.TermViews.{term, terms_of}
use Rattle.vx_expr.proofs.expressions.+root_fields.Given as goal

abbrev pub decreases-Expr::collect_fields : goal.decreases-Expr::collect_fields
decreases-Expr::collect_fields l = 3 * node_count (term l.self.now)

abbrev pub decreases-NamedExprs::collect_fields : goal.decreases-NamedExprs::collect_fields
decreases-NamedExprs::collect_fields l = 3 * nodes_in l.self.now + 1

abbrev pub decreases-Operand::collect_field : goal.decreases-Operand::collect_field
decreases-Operand::collect_field l = 3 * node_count l.self.now + 1

abbrev pub decreases-Operand::collect_pair : goal.decreases-Operand::collect_pair
decreases-Operand::collect_pair l = 3 * (node_count l.self.now + node_count l.right.now) + 1

abbrev pub invariant-NamedExprs::collect_fields-loop-expr : goal.invariant-NamedExprs::collect_fields-loop-expr
invariant-NamedExprs::collect_fields-loop-expr l = (found : Bool) (new : List (List ℕ)) → Collects (root_fields_in (terms_of (drop l.expr-index l.expr-items))) found l.names.items new → Collects (root_fields_in l.self) found l.fn.names.items new
