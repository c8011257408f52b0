use Rattle.std.proofs.Common.{ℕ, ◌+◌, length, map, drop, ap, ◌∙◌, arith}
use Rattle.vx_operators.specs.ColumnarValues.{columnar_rows}
use Rattle.vx_expr.specs.Packs.{rows_along}
use Rattle.vx_expr.proofs.PackRows.{next_fewer, next_enough}
use Rattle.vx_expr.proofs.packing.fewest_rows.Goals.{then-found-fewest, else-found-fewest}
use Rattle.vx_expr.proofs.packing.fewest_rows.Goals as goal

pub loop-columnar-preserved : goal.loop-columnar-preserved
loop-columnar-preserved c =
    let columnar_values = c.args.columnar_values.now in
    let i = c.loop-columnar.columnar-index in
    let columnar = c.columnar-item.result in
    let found = c.len-found.result in
    let count = λ (n : ℕ). length (rows_along n (map columnar_rows (drop (i + 1) columnar_values))) in
    elim c.if-found-fewest.branch [
      | then-found-fewest w ↦ ap count w.fewest-is ∙ next_fewer c.loop-columnar.fewest found _ columnar_values i columnar c.loop-columnar-test.true c.columnar-item.is c.len-found.ensures (omega arith) c.loop-columnar.invariant
      | else-found-fewest w ↦ ap count w.fewest-is ∙ next_enough c.loop-columnar.fewest found _ columnar_values i columnar c.loop-columnar-test.true c.columnar-item.is c.len-found.ensures (omega arith) c.loop-columnar.invariant
    ]
