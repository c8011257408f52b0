use Rattle.std.proofs.Common.{◌≡◌}
use Rattle.scan_demo.specs.Totals.{totals_of, with_rows}
use Rattle.scan_demo.proofs.RowTotals.{rows_left}
use Rattle.scan_demo.proofs.row_totals.Totals.of_batches.Given as goal

abbrev pub invariant-loop-batch : goal.invariant-loop-batch
invariant-loop-batch l = with_rows l.totals (rows_left l.batches l.batch-index) ≡ totals_of (rows_left l.batches 0)
