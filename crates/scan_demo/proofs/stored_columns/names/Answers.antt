use Rattle.std.proofs.Common.{arith}
use Rattle.scan_demo.specs.DemoRows.{name_at}
use Rattle.scan_demo.proofs.StoredValues.{values_more}
use Rattle.scan_demo.proofs.stored_columns.names.Goals as goal

pub loop-code-preserved : goal.loop-code-preserved
loop-code-preserved c =
    values_more name_at c.loop-code.values.items c.push.new.self.items c.in_ok-name.field-0 0 c.loop-code.code c.loop-code.code
    (omega arith) c.in_ok-name.ensures c.loop-code.invariant c.in_ok-push.ensures.items
