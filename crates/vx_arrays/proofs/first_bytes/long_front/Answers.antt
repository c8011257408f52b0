use Rattle.std.proofs.Common.{◌∙◌}
use Rattle.vx_arrays.proofs.Fronts.{long_front}
use Rattle.vx_arrays.proofs.first_bytes.long_front.Goals as goal

pub returns : goal.returns
returns c = c.from_be_bytes.ensures ∙ long_front c.args.bytes.now c.requires
