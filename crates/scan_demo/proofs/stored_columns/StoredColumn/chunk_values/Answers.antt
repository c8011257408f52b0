use Rattle.std.proofs.Common.{◌≡◌, ◌+◌, ◌-◌, ◌*◌, arith}
use Rattle.scan_demo.specs.Flats.{stored_value}
use Rattle.scan_demo.proofs.StoredValues.{values_more}
use Rattle.scan_demo.proofs.stored_columns.StoredColumn.chunk_values.Goals as goal

pub loop-row-preserved : goal.loop-row-preserved
loop-row-preserved c =
    let start = c.args.chunk * 8192 in
    let row = c.loop-row.row in
    let count : row + 1 - start ≡ row - start + 1 = omega arith in
    rw count
    (values_more (stored_value c.args.self c.args.number) c.loop-row.values.items c.push.new.self.items c.value.result start (row - start) row
    (omega arith) c.value.ensures c.loop-row.invariant c.in_ok-push.ensures.items)
