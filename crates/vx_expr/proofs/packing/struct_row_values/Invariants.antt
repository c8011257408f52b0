use Rattle.std.proofs.Common.{◌≡◌, ◌++◌, map}
use Rattle.std.specs.Vec.Iter.{into_iter_items}
use Rattle.vx_expr.specs.Packs.{struct_row}
use Rattle.vx_expr.specs.Steps.{row_value_datum, row_data}
use Rattle.vx_expr.proofs.packing.struct_row_values.Given as goal

abbrev pub invariant-loop-row : goal.invariant-loop-row
invariant-loop-row l = map row_value_datum l.row_values.items ++ map struct_row (map row_data (into_iter_items l.row-iterator)) ≡ map struct_row (map row_data l.fn.rows.items)
