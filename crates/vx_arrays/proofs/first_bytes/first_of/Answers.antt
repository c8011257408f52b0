use Rattle.vx_arrays.proofs.Fronts.{kept_bytes}
use Rattle.vx_arrays.proofs.first_bytes.first_of.Goals as goal

pub returns : goal.returns
returns c = kept_bytes c.args.front c.args.len c.min.result c.ranges.front.fits c.min.ensures
