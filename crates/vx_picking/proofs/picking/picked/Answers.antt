use Rattle.std.proofs.Common.{refl}
use Rattle.vx_picking.proofs.PickedValues.{picked_all}
use Rattle.vx_picking.proofs.picking.picked.Goals as goal

pub returns-then-all_true-clause-values : goal.returns-then-all_true-clause-values
returns-then-all_true-clause-values c = picked_all c.slice.result c.args.column.now.values c.args.start c.len.result c.args.mask.now (c.if-all_true.ensures.0 refl) c.len.ensures c.requires c.slice.ensures.values
