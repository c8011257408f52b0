use Rattle.std.proofs.Common.{◌≡◌}
use Rattle.scan_demo.specs.Totals.{with_rows}
use Rattle.scan_demo.proofs.RowTotals.{with_rest}
use Rattle.scan_demo.proofs.row_totals.Totals.with_batch.Given as goal

abbrev pub invariant-loop-row : goal.invariant-loop-row
invariant-loop-row l = with_rest l.totals l.batch.values l.row ≡ with_rows l.fn.self l.batch.values
