use Rattle.std.proofs.Common.{ap, ◌∙◌}
use Rattle.std.proofs.lemmas.List.{length-set}
use Rattle.std.specs.Prelude.{slice_get}
use Rattle.vx_operators.specs.Kernels.{compares_text}
use Rattle.vx_operators.specs.Operators.{holds}
use Rattle.vx_operators.proofs.Steps.{marked_more}
use Rattle.vx_operators.proofs.TextOrder.{front_there}
use Rattle.vx_operators.proofs.texts.mark_column.Goals as goal

pub loop-row-preserved : goal.loop-row-preserved
loop-row-preserved c = record {
  rows = length-set c.loop-row.truths c.loop-row.row c.holds.result ∙ c.loop-row.invariant.rows;
  done = marked_more (λ t. compares_text c.args.op t c.args.text.now) c.args.texts.now c.loop-row.truths c.loop-row.row c.text.result.now c.holds.result c.text.ensures (c.holds.ensures ∙ ap (holds c.args.op) c.order_by_front-order.ensures) c.loop-row.invariant.rows c.loop-row.invariant.done;
}

pub order_by_front-order-requires-clause-left : goal.order_by_front-order-requires-clause-left
order_by_front-order-requires-clause-left c = front_there (slice_get c.args.texts.now c.loop-row.row) c.text.result.now c.front.result c.front.ensures c.text.ensures
