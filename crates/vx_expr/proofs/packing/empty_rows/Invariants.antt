use Rattle.std.proofs.Common.{◌≡◌, map, replicate, []}
use Rattle.vx_expr.specs.Steps.{row_data}
use Rattle.vx_expr.proofs.packing.empty_rows.Given as goal

abbrev pub invariant-loop-row : goal.invariant-loop-row
invariant-loop-row l = map row_data l.made.items ≡ replicate l._row []
