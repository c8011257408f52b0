use Rattle.std.proofs.Common.{arith}
use Rattle.vx_arrays.specs.Cells.{cell_datum}
use Rattle.vx_segments.proofs.RunSizes.{counted_none, counted_more, more_room}
use Rattle.vx_segments.proofs.spelled_lens.run_sizes.Goals as goal

pub loop-row-init : goal.loop-row-init
loop-row-init c = counted_none c.args.column.now.values

pub overflow_add-sizes : goal.overflow_add-sizes
overflow_add-sizes c =
    let sizes = c.loop-row.sizes in
    let room = more_room c.args.column.now.values c.loop-row.row c.run_end-end.result sizes.runs sizes.once sizes.all c.text_len-len.result (cell_datum c.cell.result) c.requires.short c.requires.few c.cell.ensures c.text_len-len.ensures c.run_end-end.ensures c.loop-row.invariant in
    omega (arith, room.0)

pub overflow_add-sizes-in-loop-row : goal.overflow_add-sizes-in-loop-row
overflow_add-sizes-in-loop-row c =
    let sizes = c.loop-row.sizes in
    let room = more_room c.args.column.now.values c.loop-row.row c.run_end-end.result sizes.runs sizes.once sizes.all c.text_len-len.result (cell_datum c.cell.result) c.requires.short c.requires.few c.cell.ensures c.text_len-len.ensures c.run_end-end.ensures c.loop-row.invariant in
    omega (arith, room.1)

pub overflow_mul-sizes : goal.overflow_mul-sizes
overflow_mul-sizes c =
    let sizes = c.loop-row.sizes in
    let room = more_room c.args.column.now.values c.loop-row.row c.run_end-end.result sizes.runs sizes.once sizes.all c.text_len-len.result (cell_datum c.cell.result) c.requires.short c.requires.few c.cell.ensures c.text_len-len.ensures c.run_end-end.ensures c.loop-row.invariant in
    omega (arith, room.2)

pub overflow_add-sizes-in-loop-row-2 : goal.overflow_add-sizes-in-loop-row-2
overflow_add-sizes-in-loop-row-2 c =
    let sizes = c.loop-row.sizes in
    let room = more_room c.args.column.now.values c.loop-row.row c.run_end-end.result sizes.runs sizes.once sizes.all c.text_len-len.result (cell_datum c.cell.result) c.requires.short c.requires.few c.cell.ensures c.text_len-len.ensures c.run_end-end.ensures c.loop-row.invariant in
    omega (arith, room.2)

pub loop-row-preserved : goal.loop-row-preserved
loop-row-preserved c =
    let sizes = c.loop-row.sizes in
    counted_more c.args.column.now.values c.loop-row.row c.run_end-end.result sizes.runs sizes.once sizes.all c.text_len-len.result (cell_datum c.cell.result) c.cell.ensures c.text_len-len.ensures c.run_end-end.ensures c.loop-row.invariant
