use Rattle.std.proofs.Common.{◌≡◌, ◌+◌, ◌++◌, drop, map}
use Rattle.vx_picking.specs.Rows.{rows_of}
use Rattle.vx_steps.proofs.picking.numbered.Given as goal

abbrev pub invariant-loop-row : goal.invariant-loop-row
invariant-loop-row l = l.numbers.items ++ map (λ row. row + l.offset) (rows_of (l.start + l.row) (drop l.row l.mask)) ≡ map (λ row. row + l.offset) (rows_of l.start l.mask)
