use Rattle.std.proofs.Common.{◌≡◌, ◌+◌, ◌*◌, ◌++◌, drop}
use Rattle.vx_expr.specs.Counts.{node_count, nodes_in}
use Rattle.vx_expr.specs.TermText.{terms_text}
use Rattle.vx_expr.specs.TermViews.{term, terms_of}
use Rattle.vx_expr.proofs.PairTexts.{left_text}
use Rattle.vx_expr.proofs.expressions.+text.Given as goal

abbrev pub decreases-Expr::write_text : goal.decreases-Expr::write_text
decreases-Expr::write_text l = 3 * node_count (term l.self.now) + 1

abbrev pub decreases-Expr::write_parts : goal.decreases-Expr::write_parts
decreases-Expr::write_parts l = 3 * node_count (term l.self.now)

abbrev pub decreases-NamedExprs::write_text : goal.decreases-NamedExprs::write_text
decreases-NamedExprs::write_text l = 3 * nodes_in l.self.now + 2

abbrev pub decreases-NamedExprs::write_struct : goal.decreases-NamedExprs::write_struct
decreases-NamedExprs::write_struct l = 3 * nodes_in l.self.now + 3

abbrev pub decreases-Operand::write_field : goal.decreases-Operand::write_field
decreases-Operand::write_field l = 3 * node_count l.self.now + 2

abbrev pub decreases-Operand::write_call : goal.decreases-Operand::write_call
decreases-Operand::write_call l = 3 * node_count l.self.now + 2

abbrev pub decreases-Operand::write_pair : goal.decreases-Operand::write_pair
decreases-Operand::write_pair l = 3 * (node_count l.self.now + node_count l.right.now) + 2

abbrev pub invariant-NamedExprs::write_text-loop-place : goal.invariant-NamedExprs::write_text-loop-place
invariant-NamedExprs::write_text-loop-place l = l.out.items ++ left_text l.place (drop l.place l.items) ≡ l.fn.out.items ++ terms_text (terms_of l.items)
