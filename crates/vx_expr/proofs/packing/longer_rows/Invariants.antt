use Rattle.std.proofs.Common.{◌≡◌, ◌++◌, map}
use Rattle.std.specs.Vec.Iter.{into_iter_items}
use Rattle.vx_expr.specs.Rows.{along}
use Rattle.vx_expr.specs.Steps.{row_value_datum, row_data, appended}
use Rattle.vx_expr.proofs.packing.longer_rows.Given as goal

abbrev pub invariant-loop-cell : goal.invariant-loop-cell
invariant-loop-cell l = map row_data l.longer.items ++ along appended (map row_data l.rows.items) (map row_value_datum (into_iter_items l.cell-iterator)) ≡ along appended (map row_data l.fn.rows.items) (map row_value_datum l.fn.row_values.items)
