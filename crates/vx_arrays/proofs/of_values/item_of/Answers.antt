use Rattle.std.proofs.Common.{◌∙◌, sym, arith}
use Rattle.std.proofs.lemmas.Result.{IfOk-weaker}
use Rattle.vx_arrays.proofs.ValueRows.{field_here, field_past}
use Rattle.vx_arrays.proofs.of_values.item_of.Goals as goal

pub returns-then-place-items : goal.returns-then-place-items
returns-then-place-items c =
    IfOk-weaker c.copy.result _ _ (λ found is. is ∙ sym (field_here c.args.items.now c.args.place c.index-items-place.result c.if-place-items.true c.index-items-place.is)) c.copy.ensures

pub returns-else-place-items : goal.returns-else-place-items
returns-else-place-items c = sym (field_past c.args.items.now c.args.place (omega arith))
