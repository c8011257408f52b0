use Rattle.std.proofs.Common.{◌≡◌, ◌++◌, map, drop}
use Rattle.vx_expr.specs.Rows.{front}
use Rattle.vx_expr.specs.Steps.{row_value_datum, one_step}
use Rattle.vx_expr.proofs.evaluated.one_each.Given as goal

abbrev pub invariant-loop-cell : goal.invariant-loop-cell
invariant-loop-cell l = map row_value_datum l.made.items ++ front (map (one_step l.step) (map row_value_datum (drop l.cell-index l.row_values))) ≡ front (map (one_step l.step) (map row_value_datum l.row_values))
