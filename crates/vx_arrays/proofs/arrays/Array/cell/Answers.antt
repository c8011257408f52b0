use Rattle.vx_arrays.specs.Cells.{cell_datum}
use Rattle.vx_arrays.proofs.ArrayRanges.{cell_valid, cell_null}
use Rattle.vx_arrays.proofs.arrays.Array.cell.Goals as goal

pub returns-then-value : goal.returns-then-value
returns-then-value c = cell_valid c.self.inside.validity c.self.inside.buffers c.args.row (cell_datum c.cell.result) c.args.self.now c.self.view_is (rw c.if-value.true at c.value.ensures) c.cell.ensures

pub returns-else-value : goal.returns-else-value
returns-else-value c = cell_null c.self.inside.validity c.self.inside.buffers c.args.row c.args.self.now c.self.view_is c.self.invariant (rw c.if-value.false at c.value.ensures)
