use Rattle.std.proofs.Common.{◌≡◌, ◌+◌, ◌*◌, ◌≤◌, length, drop}
use Rattle.vx_base.specs.Views.{data_type}
use Rattle.vx_expr.specs.Counts.{node_count, nodes_in}
use Rattle.vx_expr.specs.Finds.{found_in, coming}
use Rattle.vx_expr.specs.Rows.{along, front, items_made}
use Rattle.vx_expr.specs.Steps.{packing_rows, rows_values, rows_numbers}
use Rattle.vx_expr.specs.TermViews.{term, terms_of}
use Rattle.vx_expr.proofs.Fronts.{continued}
use Rattle.vx_expr.proofs.PartFinds.{Walks}
use Rattle.vx_expr.proofs.expressions.+evaluation.Given as goal

abbrev pub decreases-Expr::evaluated : goal.decreases-Expr::evaluated
decreases-Expr::evaluated l = 2 * node_count (term l.self.now) + 1

abbrev pub decreases-Expr::evaluated_part : goal.decreases-Expr::evaluated_part
decreases-Expr::evaluated_part l = 2 * node_count (term l.self.now)

abbrev pub decreases-NamedExprs::rows : goal.decreases-NamedExprs::rows
decreases-NamedExprs::rows l = 2 * nodes_in l.self.now + 2

abbrev pub decreases-Expr::evaluated_pair : goal.decreases-Expr::evaluated_pair
decreases-Expr::evaluated_pair l = 2 * (node_count l.left.now + node_count l.right.now) + 2

abbrev pub invariant-NamedExprs::rows-loop-item : goal.invariant-NamedExprs::rows-loop-item
invariant-NamedExprs::rows-loop-item l = record {
  made : front (continued (packing_rows l.made) (items_made (data_type l.rows.dtype.now) (terms_of (drop l.item-index l.items))) (rows_values l.rows) (rows_numbers l.rows)) ≡ front (along (items_made (data_type l.rows.dtype.now) (terms_of l.items)) (rows_values l.rows) (rows_numbers l.rows));
  count : l.count ≡ length (packing_rows l.made);
  few : l.count ≤ l.rows.count;
  walks : Walks (found_in (data_type l.rows.dtype.now) (terms_of l.items)) (found_in (data_type l.rows.dtype.now) (terms_of (drop l.item-index l.items))) (coming l.fn.finds) (coming l.finds);
}
