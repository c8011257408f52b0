use Rattle.vx_arrays.specs.Cells.{cell_datum}
use Rattle.vx_picking.proofs.PickedValues.{codes_before}
use Rattle.vx_picking.proofs.picking.first_past.Goals as goal

pub loop-place-preserved : goal.loop-place-preserved
loop-place-preserved c = λ rest. c.loop-place.invariant (codes_before c.args.count c.args.codes.now.values c.loop-place.place (cell_datum c.cell.result) c.cell.ensures c.if-is_past.ensures rest)
