use Rattle.vx_reads.proofs.Reaching.{needed_reached}
use Rattle.vx_reads.proofs.laws.needs_are_reached.Goals as goal

pub returns : goal.returns
returns c = needed_reached
