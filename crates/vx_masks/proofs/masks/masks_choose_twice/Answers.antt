use Rattle.vx_masks.proofs.Twice.{chooses_twice}
use Rattle.vx_masks.proofs.masks.masks_choose_twice.Goals as goal

pub returns : goal.returns
returns g c = chooses_twice _
