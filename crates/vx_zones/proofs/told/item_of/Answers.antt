use Rattle.std.proofs.Common.{◌∙◌, sym, arith}
use Rattle.vx_arrays.proofs.ValueRows.{field_here, field_past}
use Rattle.vx_zones.proofs.told.item_of.Goals as goal

pub returns-in_ok-found : goal.returns-in_ok-found
returns-in_ok-found c = c.in_ok-found.ensures ∙ sym (field_here c.args.items.now c.args.place c.index-items-place.result c.if-place-items.true c.index-items-place.is)

pub returns-else-place-items : goal.returns-else-place-items
returns-else-place-items c = sym (field_past c.args.items.now c.args.place (omega arith))
