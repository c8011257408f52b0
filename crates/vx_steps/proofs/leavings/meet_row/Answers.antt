use Rattle.std.proofs.Common.{arith, ◌<◌}
use Rattle.vx_plan.specs.Rules.{node_at}
use Rattle.vx_steps.proofs.LeavingRows.{one_row}
use Rattle.vx_steps.proofs.leavings.meet_row.Goals as goal

pub returns-then-row-row_count : goal.returns-then-row-row_count
returns-then-row-row_count c =
    let inside : c.args.row < (node_at c.args.table.now c.args.plan).rows = omega (arith, c.row_count.ensures, c.if-row-row_count.true) in
    one_row c.args.table.now c.args.plan c.args.row c.args.sieve.now c.meet_rows.new.sieve inside c.meet_rows.ensures
