use Rattle.std.proofs.Common.{rules}
use Rattle.vx_io.proofs.KnownRanges.{known_more}
use Rattle.vx_io.proofs.sessions.first_unknown.Goals as goal

pub loop-place-preserved : goal.loop-place-preserved
loop-place-preserved c = known_more c.args.ranges.now c.args.batch.now c.loop-place.place _ c.location-at.result c.find.result c.loop-place-test.true c.location-at.ensures c.find.ensures (search rules) c.loop-place.invariant
