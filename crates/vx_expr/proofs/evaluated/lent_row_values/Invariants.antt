use Rattle.std.proofs.Common.{◌≡◌, map, take}
use Rattle.vx_expr.specs.Steps.{row_value_datum}
use Rattle.vx_expr.proofs.evaluated.lent_row_values.Given as goal

abbrev pub invariant-loop-row : goal.invariant-loop-row
invariant-loop-row l = map row_value_datum l.row_values.items ≡ take l.row l.array.values
