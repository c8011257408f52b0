use Rattle.std.proofs.Common.{◌≡◌, ◌++◌, map, drop}
use Rattle.vx_expr.specs.Rows.{along, front}
use Rattle.vx_expr.specs.Steps.{row_value_datum, two_step}
use Rattle.vx_expr.proofs.evaluated.two_each.Given as goal

abbrev pub invariant-loop-row : goal.invariant-loop-row
invariant-loop-row l = map row_value_datum l.made.items ++ front (along (two_step l.step) (map row_value_datum (drop l.row l.lefts)) (map row_value_datum (drop l.row l.rights))) ≡ front (along (two_step l.step) (map row_value_datum l.lefts) (map row_value_datum l.rights))
