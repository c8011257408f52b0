use Rattle.std.proofs.Common.{arith}
use Rattle.vx_masks.proofs.AllRows.{are_all}
use Rattle.vx_masks.proofs.masks.Mask.is_all_of.Goals as goal

pub returns : goal.returns
returns c = are_all c.args.rows c.args.self.now c.all_true.result (omega arith) c.all_true.ensures
