use Rattle.std.proofs.Common.{ap}
use Rattle.vx_steps.specs.Places.{place_before, place_in}
use Rattle.vx_steps.proofs.places.PlaceTable.new.Goals as goal

pub returns : goal.returns
unfolding place_in
returns c = λ n. ap place_before (c.new.ensures n)
