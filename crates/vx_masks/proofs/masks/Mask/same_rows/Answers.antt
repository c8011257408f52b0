use Rattle.vx_masks.proofs.AllRows.{agree_next, same_bits}
use Rattle.vx_masks.proofs.masks.Mask.same_rows.Goals as goal

pub loop-row-preserved : goal.loop-row-preserved
loop-row-preserved c =
    agree_next c.args.self.now c.args.other.now c.loop-row.row c.value.result c.value-in-loop-row.result c.value.ensures c.value-in-loop-row.ensures (same_bits c.value.result c.value-in-loop-row.result c.if-value.false) c.loop-row.invariant
