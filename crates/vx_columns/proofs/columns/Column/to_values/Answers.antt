use Rattle.vx_columns.proofs.ColumnRows.{values_more}
use Rattle.vx_columns.proofs.columns.Column.to_values.Goals as goal

pub loop-row-preserved : goal.loop-row-preserved
loop-row-preserved c = values_more c.args.self.now.values c.loop-row.values.items c.push.new.self.items c.loop-row.row c.in_ok-value.value c.in_ok-value.ensures c.in_ok-push.ensures.items c.loop-row.invariant
