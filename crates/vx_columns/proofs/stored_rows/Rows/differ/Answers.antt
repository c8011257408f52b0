use Rattle.std.proofs.Common.{arith, refl}
use Rattle.vx_columns.specs.StoredRows.{row_data}
use Rattle.vx_columns.proofs.LaidRuns.{differ_more, differ_all, row_repeats}
use Rattle.vx_columns.proofs.stored_rows.Rows.differ.Goals as goal

pub returns-then-are_same : goal.returns-then-are_same
returns-then-are_same c = (λ yes. absurd cc, λ differ. absurd (row_repeats (row_data c.args.self.now).values c.loop-row.row (omega arith) c.loop-row.invariant (c.are_same.ensures.0 cc) differ))

pub loop-row-preserved : goal.loop-row-preserved
loop-row-preserved c = differ_more (row_data c.args.self.now).values c.loop-row.row (λ same. let yes = c.are_same.ensures.1 same in absurd cc) c.loop-row.invariant

pub returns : goal.returns
returns c = (λ yes. differ_all (row_data c.args.self.now).values c.loop-row.row (omega (arith, c.loop-row-test.false, c.len-row-end.ensures)) c.loop-row.invariant, λ differ. refl)
