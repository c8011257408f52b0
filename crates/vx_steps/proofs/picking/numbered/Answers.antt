use Rattle.std.proofs.Common.{arith}
use Rattle.vx_picking.proofs.PickedValues.{number_true, number_false, numbers_all}
use Rattle.vx_steps.proofs.picking.numbered.Goals.{then-value+in_ok-push, else-value}
use Rattle.vx_steps.proofs.picking.numbered.Goals as goal

pub loop-row-preserved : goal.loop-row-preserved
loop-row-preserved c = elim c.if-value.branch [
  | then-value+in_ok-push w ↦ rw w.numbers-is (number_true c.args.start c.loop-row.row c.args.offset c.args.mask.now c.loop-row.numbers.items w.push.new.self.items _ w.if-value.ensures c.loop-row.invariant w.in_ok-push.ensures.items)
  | else-value w ↦ rw w.numbers-is (number_false c.args.start c.loop-row.row c.args.offset c.args.mask.now c.loop-row.numbers.items _ w.if-value.ensures c.loop-row.invariant)
]

pub returns-clause-values : goal.returns-clause-values
returns-clause-values c = rw (← numbers_all c.args.start c.loop-row.row c.args.offset c.args.mask.now c.loop-row.numbers.items (omega (arith, c.loop-row-test.false, c.len-row-end.ensures)) c.loop-row.invariant) c.from_numbers.ensures.values
