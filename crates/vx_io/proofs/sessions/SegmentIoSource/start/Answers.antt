use Rattle.std.proofs.Common.{rules}
use Rattle.vx_io.specs.Session.{waits}
use Rattle.vx_io.proofs.KnownRanges.{known_segment}
use Rattle.vx_io.proofs.TableSteps.{sound_done, sound_refused}
use Rattle.vx_io.proofs.sessions.SegmentIoSource.start.Goals as goal

pub invariant_of-self-in-Ok : goal.invariant_of-self-in-Ok
invariant_of-self-in-Ok g c =
    let done = c.in-Ok.ensures.takes in
    let known = known_segment c.args.self.now.ranges.now c.args.request.target c.location-at.result c.find.result c.unwrap-segment.result c.location-at.ensures c.find.ensures (search rules) in
    let added = rw c.reserve.ensures.items at c.add_fetch.ensures in
    record {
      sound = sound_done c.args.self.now.ranges.now (waits c.args.self.now.waiting.segments) (waits c.take.new.self.segments) c.args.self.now.fetches.items c.add_fetch.new.fetches.items
          (g.S.SegmentSource.state c.args.self.now.source.now) (g.S.SegmentSource.state c.take.new.source) c.args.owner c.args.request c.location-at.result c.unwrap-segment.result c.in-Ok.taken done.0
          c.args.self.now.sound known c.location-at.ensures done.1 done.3 done.2 added;
    }

pub invariant_of-self-in-Err-1 : goal.invariant_of-self-in-Err-1
invariant_of-self-in-Err-1 g c =
    record {
      sound = sound_refused c.args.self.now.ranges.now (waits c.args.self.now.waiting.segments) (waits c.take.new.self.segments) c.args.self.now.fetches.items c.reserve.new.self.items
          (g.S.SegmentSource.state c.args.self.now.source.now) (g.S.SegmentSource.state c.take.new.source) c.args.request.intent c.unwrap-segment.result c.location-at.result c.in-Err.error
          c.args.self.now.sound c.in-Err.ensures.takes c.reserve.ensures.items;
    }
