use Rattle.std.proofs.Common.{◌+◌, ◌-◌, ◌/◌, arith}
use Rattle.vx_columns.proofs.SpreadRuns.{between_all, between_upper}
use Rattle.vx_columns.proofs.run_rows.place_of.Goals as goal

pub loop-low-init : goal.loop-low-init
loop-low-init c = between_all c.args.ends.now c.args.row c.requires

pub loop-low-preserved-then-ends-middle : goal.loop-low-preserved-then-ends-middle
loop-low-preserved-then-ends-middle c =
    let low = c.loop-low.low in
    let high = c.loop-low.high in
    between_upper c.args.ends.now c.args.row low high (low + (high - low) / 2) (omega arith) (omega (arith, c.loop-low-test.true)) c.if-ends-middle.true c.loop-low.invariant
