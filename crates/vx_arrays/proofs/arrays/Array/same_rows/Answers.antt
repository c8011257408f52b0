use Rattle.std.proofs.Common.{arith}
use Rattle.vx_arrays.proofs.SameRows.{rows_more}
use Rattle.vx_arrays.proofs.arrays.Array.same_rows.Goals as goal

pub loop-row-preserved : goal.loop-row-preserved
loop-row-preserved c = rows_more c.args.self.now.values c.args.other.now.values c.loop-row.row (omega arith) (omega arith) (c.same_row.ensures.0 cc) c.loop-row.invariant
