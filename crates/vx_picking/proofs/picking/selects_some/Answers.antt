use Rattle.std.proofs.Common.{◌∙◌}
use Rattle.vx_picking.proofs.SelectedRows.{some_first}
use Rattle.vx_picking.proofs.picking.selects_some.Goals as goal

pub returns : goal.returns
returns c = c.is_some.ensures ∙ some_first c.args.mask.now c.first.result c.first.ensures
