use Rattle.std.proofs.Common.{map, arith}
use Rattle.std.proofs.lemmas.List.{length-map}
use Rattle.std.specs.Vec.Iter.{into_iter_items}
use Rattle.vx_expr.specs.Steps.{row_value_datum, row_data, appended}
use Rattle.vx_expr.proofs.Fronts.{along_end}
use Rattle.vx_expr.proofs.packing.longer_rows.Goals as goal

pub returns : goal.returns
returns c =
    let rest = into_iter_items c.loop-cell.cell-iterator in
    along_end appended (map row_data c.loop-cell.rows.items) (map row_value_datum rest) (map row_data c.loop-cell.longer.items) _ (omega (arith, length-map rest row_value_datum, c.in-None.ensures.steps.0)) c.loop-cell.invariant
