use Rattle.vx_expr.proofs.RowValueRows.{row_values_more}
use Rattle.vx_expr.proofs.evaluated.lent_row_values.Goals as goal

pub loop-row-preserved : goal.loop-row-preserved
loop-row-preserved c = row_values_more c.args.array.now.values c.loop-row.row_values.items c.push.new.self.items c.loop-row.row c.in_ok-cell.cell _ c.cell.ensures c.in_ok-cell.ensures c.in_ok-push.ensures.items c.loop-row.invariant
