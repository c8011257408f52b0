use Rattle.vx_io.specs.Session.{waits}
use Rattle.vx_io.specs.Session.{asks}
use Rattle.vx_io.proofs.TakenReads.{no_room}
use Rattle.vx_io.proofs.waiting.WaitingTable.take_with_room.Goals as goal

pub returns-then-is_err : goal.returns-then-is_err
returns-then-is_err g c =
    (c.make_room.ensures.same, no_room (asks c.args.intent (waits c.args.self.now.segments c.args.segment)) c.args.at (g.S.SegmentSource.state c.args.source.now))
