use Rattle.std.proofs.Common.{◌≡◌, length, map, drop}
use Rattle.vx_operators.specs.ColumnarValues.{columnar_rows}
use Rattle.vx_expr.specs.Packs.{rows_along}
use Rattle.vx_expr.proofs.packing.fewest_rows.Given as goal

abbrev pub invariant-loop-columnar : goal.invariant-loop-columnar
invariant-loop-columnar l = length (rows_along l.fewest (map columnar_rows (drop l.columnar-index l.columnar_values))) ≡ length (rows_along l.rows (map columnar_rows l.columnar_values))
