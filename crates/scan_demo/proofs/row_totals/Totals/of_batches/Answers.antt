use Rattle.scan_demo.specs.Totals.{totals_of}
use Rattle.scan_demo.proofs.RowTotals.{batch_more, rows_left}
use Rattle.scan_demo.proofs.row_totals.Totals.of_batches.Goals as goal

pub loop-batch-preserved : goal.loop-batch-preserved
loop-batch-preserved c =
    batch_more c.loop-batch.totals c.in_ok-totals.totals (totals_of (rows_left c.args.batches.now 0)) c.args.batches.now c.loop-batch.batch-index c.batch-item.result
    c.loop-batch-test.true c.batch-item.is c.in_ok-totals.ensures c.loop-batch.invariant
