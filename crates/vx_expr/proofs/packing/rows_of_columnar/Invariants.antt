use Rattle.std.proofs.Common.{◌≡◌, map}
use Rattle.std.specs.Vec.Iter.{into_iter_items}
use Rattle.vx_operators.specs.ColumnarValues.{columnar_rows}
use Rattle.vx_expr.specs.Packs.{rows_along}
use Rattle.vx_expr.specs.Steps.{row_data}
use Rattle.vx_expr.proofs.PackRows.{extended}
use Rattle.vx_expr.proofs.packing.rows_of_columnar.Given as goal

abbrev pub invariant-loop-columnar : goal.invariant-loop-columnar
invariant-loop-columnar l = extended (map row_data l.made.items) (map columnar_rows (into_iter_items l.columnar-iterator)) ≡ rows_along l.rows (map columnar_rows l.fn.columnar_values.items)
