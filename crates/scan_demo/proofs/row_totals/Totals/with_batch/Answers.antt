use Rattle.scan_demo.specs.Totals.{with_rows}
use Rattle.vx_base.specs.Cells.{cell_datum}
use Rattle.scan_demo.proofs.RowTotals.{row_more}
use Rattle.scan_demo.proofs.row_totals.Totals.with_batch.Goals as goal

pub loop-row-preserved : goal.loop-row-preserved
loop-row-preserved c =
    let rows = c.args.batch.now.values in
    row_more c.loop-row.totals c.in_ok-totals.totals (with_rows c.args.self rows) rows c.loop-row.row (cell_datum c.cell.result) c.cell.ensures c.in_ok-totals.ensures c.loop-row.invariant
