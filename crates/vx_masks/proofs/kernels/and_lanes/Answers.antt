use Rattle.vx_masks.proofs.Numbers.{stored_and}
use Rattle.vx_masks.proofs.kernels.and_lanes.Goals as goal

pub returns : goal.returns
returns c = stored_and c.args.place c.args.into.now c.args.other.now c.requires.inside c.requires.other_inside
