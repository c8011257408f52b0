use Rattle.std.proofs.Common.{◌∙◌, sym, arith}
use Rattle.vx_picking.proofs.PickedValues.{row_here, row_passed, row_false}
use Rattle.vx_picking.proofs.picking.selected_row.Goals.{then-value+else-left-eq0, else-value}
use Rattle.vx_picking.proofs.picking.selected_row.Goals as goal

pub returns-then-left-eq0 : goal.returns-then-left-eq0
returns-then-left-eq0 c = row_here c.args.start c.loop-row.row c.loop-row.left c.args.place c.args.mask.now c.if-value.ensures c.if-left-eq0.true c.loop-row.invariant

pub loop-row-preserved : goal.loop-row-preserved
loop-row-preserved c = elim c.if-value.branch [
  | then-value+else-left-eq0 w ↦ rw w.left-is (sym (row_passed c.args.start c.loop-row.row c.loop-row.left c.args.mask.now w.if-value.ensures (let some = w.if-left-eq0.false in omega arith)) ∙ c.loop-row.invariant)
  | else-value w ↦ rw (w.left-is, ← row_false c.args.start c.loop-row.row c.args.mask.now w.if-value.ensures) c.loop-row.invariant
]
