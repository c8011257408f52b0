use Rattle.std.proofs.Common.{◌≡◌, ◌++◌, map}
use Rattle.std.specs.Vec.Iter.{into_iter_items}
use Rattle.vx_base.specs.ValueViews.{datum}
use Rattle.vx_expr.specs.Steps.{row_value_datum}
use Rattle.vx_expr.proofs.fitting.values_of.Given as goal

abbrev pub invariant-loop-cell : goal.invariant-loop-cell
invariant-loop-cell l = map datum l.values.items ++ map row_value_datum (into_iter_items l.cell-iterator) ≡ map row_value_datum l.fn.row_values.items
