use Rattle.vx_readers.proofs.ZonesReached.{zones_reached}
use Rattle.vx_readers.proofs.laws.zones_are_reached.Goals as goal

pub returns : goal.returns
returns c = zones_reached
