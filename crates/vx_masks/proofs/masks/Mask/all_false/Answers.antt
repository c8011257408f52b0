use Rattle.vx_masks.proofs.Found.{is_empty}
use Rattle.vx_masks.proofs.masks.Mask.all_false.Goals as goal

pub returns : goal.returns
returns c = is_empty c.args.self.now c.true_count.result c.true_count.ensures
