use Rattle.std.proofs.Common.{◌≡◌, ◌+◌, ◌*◌, ◌++◌, drop}
use Rattle.vx_expr.specs.Counts.{node_count, nodes_in}
use Rattle.vx_expr.specs.Finds.{found_in}
use Rattle.vx_expr.specs.TermViews.{term, terms_of}
use Rattle.vx_expr.proofs.Refused.{SoFar}
use Rattle.vx_expr.proofs.expressions.+typing.Given as goal

abbrev pub decreases-Expr::typed : goal.decreases-Expr::typed
decreases-Expr::typed l = 4 * node_count (term l.self.now) + 1

abbrev pub decreases-Expr::parts_typed : goal.decreases-Expr::parts_typed
decreases-Expr::parts_typed l = 4 * node_count (term l.self.now)

abbrev pub decreases-NamedExprs::fields : goal.decreases-NamedExprs::fields
decreases-NamedExprs::fields l = 4 * nodes_in l.self.now + 2

abbrev pub decreases-Operand::typed : goal.decreases-Operand::typed
decreases-Operand::typed l = 4 * node_count l.self.now + 2

abbrev pub decreases-Operand::typed_pair : goal.decreases-Operand::typed_pair
decreases-Operand::typed_pair l = 4 * (node_count l.self.now + node_count l.right.now) + 3

abbrev pub invariant-NamedExprs::fields-loop-item : goal.invariant-NamedExprs::fields-loop-item
invariant-NamedExprs::fields-loop-item l = record {
  so_far : SoFar l.root (terms_of l.items) (terms_of (drop l.item-index l.items)) l.fields.items l.fn.next l.next;
  found : l.found.items ++ found_in l.root (terms_of (drop l.item-index l.items)) ≡ l.fn.found.items ++ found_in l.root (terms_of l.items);
}
