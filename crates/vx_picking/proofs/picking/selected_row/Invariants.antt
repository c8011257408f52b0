use Rattle.std.proofs.Common.{◌≡◌, ◌+◌, drop}
use Rattle.std.specs.List.{slice_get}
use Rattle.vx_picking.specs.Rows.{rows_of}
use Rattle.vx_picking.proofs.picking.selected_row.Given as goal

abbrev pub invariant-loop-row : goal.invariant-loop-row
invariant-loop-row l = slice_get (rows_of (l.start + l.row) (drop l.row l.mask)) l.left ≡ slice_get (rows_of l.start l.mask) l.place
