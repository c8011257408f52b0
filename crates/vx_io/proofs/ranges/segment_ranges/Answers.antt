use Rattle.std.proofs.Common.{take}
use Rattle.vx_io.proofs.RangeTables.{table_more, table_apart}
use Rattle.vx_io.proofs.ranges.segment_ranges.Goals as goal

pub loop-number-preserved : goal.loop-number-preserved
loop-number-preserved c =
    table_more c.loop-number.segments c.insert.new.self c.args.locations.now c.loop-number.number (record { offset = 0; length = 0; alignment = 0 }) c.loop-number-test.true c.loop-number.invariant c.in_ok-insert.ensures.updates.0

pub invariant_of-result : goal.invariant_of-result
invariant_of-result c = table_apart c.loop-number.segments.entries (take c.loop-number.number c.args.locations.now) c.loop-number.invariant
