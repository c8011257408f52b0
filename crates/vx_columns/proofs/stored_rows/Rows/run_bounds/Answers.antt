use Rattle.vx_columns.specs.StoredRows.{row_data}
use Rattle.vx_columns.proofs.BuiltRuns.{runs_more}
use Rattle.std.proofs.Common.{arith}
use Rattle.vx_columns.proofs.stored_rows.Rows.run_bounds.Goals as goal

pub loop-start-preserved : goal.loop-start-preserved
loop-start-preserved c =
    runs_more (row_data c.args.self.now).values c.loop-start.starts.items c.loop-start.ends.items c.push.new.self.items c.push-in-loop-start.new.self.items c.loop-start.start c.run_end-start.result
    (omega (arith, c.loop-start-test.true, c.len-rows.ensures)) c.in_ok-push.ensures.items c.in_ok-push-2.ensures.items c.run_end-start.ensures c.loop-start.invariant
