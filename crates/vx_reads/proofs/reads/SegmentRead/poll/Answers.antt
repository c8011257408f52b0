use Rattle.std.proofs.Common.{refl}
use Rattle.vx_reads.proofs.reads.SegmentRead.poll.Goals as goal

pub returns-in-Ok-Some : goal.returns-in-Ok-Some
returns-in-Ok-Some g c =
    let gives = rw c.in-Ok-Some.field-0-is at c.in-Ok-Some.ensures in
    rw c.in-InFlight.is (c.in-Ok-Some.bytes, (refl, gives.0, gives.1, gives.2))
