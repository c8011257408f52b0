use Rattle.std.proofs.Common.{◌≡◌, map, replicate}
use Rattle.vx_base.specs.ValueViews.{datum}
use Rattle.vx_expr.specs.Steps.{row_value_datum}
use Rattle.vx_expr.proofs.evaluated.literal_row_values.Given as goal

abbrev pub invariant-loop-row : goal.invariant-loop-row
invariant-loop-row l = map row_value_datum l.row_values.items ≡ replicate l._row (datum l.value)
