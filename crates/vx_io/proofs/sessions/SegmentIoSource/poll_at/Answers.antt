use Rattle.std.proofs.Common.{◌≡◌, sym, subst, rules}
use Rattle.std.specs.Prelude.{remove, slice_index_or}
use Rattle.vx_io.specs.Session.{Flight, waits}
use Rattle.vx_io.specs.Tables.{session_state}
use Rattle.vx_io.proofs.SoundEnds.{sound_end}
use Rattle.vx_io.proofs.PolledFetches.{ends_here, has_bytes}
use Rattle.vx_io.proofs.sessions.SegmentIoSource.poll_at.Goals as goal

pub invariant_of-self-in-Ok-Some : goal.invariant_of-self-in-Ok-Some
invariant_of-self-in-Ok-Some g c =
    let fetch : Flight = record { owner = c.fetch.inside.owner; request = c.fetch.inside.request; at = c.fetch.inside.at; ticket = c.fetch.inside.ticket } in
    let here : fetch ≡ slice_index_or c.args.self.now.fetches.items c.args.place fetch = subst (λ (f : Flight). f ≡ slice_index_or c.args.self.now.fetches.items c.args.place f) (sym c.fetch.view_is) c.index-fetch.ensures in
    let ended = rw c.in-Ok-Some.field-0-is at c.in-Ok-Some.ensures in
    let removed : c.remove.new.self.items ≡ remove c.args.self.now.fetches.items c.args.place = search rules in
    record { sound = rw removed (sound_end c.args.self.now.ranges.now (session_state c.args.self.now) (g.S.SegmentSource.state c.poll.new.self) c.args.place fetch c.args.self.now.sound c.requires here ended.0.in_flight) }

pub invariant_of-self-in-Err-Failed : goal.invariant_of-self-in-Err-Failed
invariant_of-self-in-Err-Failed g c =
    let fetch : Flight = record { owner = c.fetch.inside.owner; request = c.fetch.inside.request; at = c.fetch.inside.at; ticket = c.fetch.inside.ticket } in
    let here : fetch ≡ slice_index_or c.args.self.now.fetches.items c.args.place fetch = subst (λ (f : Flight). f ≡ slice_index_or c.args.self.now.fetches.items c.args.place f) (sym c.fetch.view_is) c.index-fetch.ensures in
    let ended = rw c.in-Err-Failed.field-0-is at c.in-Err-Failed.ensures in
    let removed : c.remove-in-Err-Failed.new.self.items ≡ remove c.args.self.now.fetches.items c.args.place = search rules in
    record { sound = rw removed (sound_end c.args.self.now.ranges.now (session_state c.args.self.now) (g.S.SegmentSource.state c.poll.new.self) c.args.place fetch c.args.self.now.sound c.requires here ended.0.in_flight) }

pub returns-in-Ok-Some-clause-gives : goal.returns-in-Ok-Some-clause-gives
returns-in-Ok-Some-clause-gives g c =
    let fetch : Flight = record { owner = c.fetch.inside.owner; request = c.fetch.inside.request; at = c.fetch.inside.at; ticket = c.fetch.inside.ticket } in
    let here : fetch ≡ slice_index_or c.args.self.now.fetches.items c.args.place fetch = subst (λ (f : Flight). f ≡ slice_index_or c.args.self.now.fetches.items c.args.place f) (sym c.fetch.view_is) c.index-fetch.ensures in
    let ended = rw c.in-Ok-Some.field-0-is at c.in-Ok-Some.ensures in
    let removed : c.remove.new.self.items ≡ remove c.args.self.now.fetches.items c.args.place = search rules in (
      ends_here c.args.self.now.ranges.now (waits c.args.self.now.waiting.segments) c.args.self.now.fetches.items c.remove.new.self.items (g.S.SegmentSource.state c.args.self.now.source.now) (g.S.SegmentSource.state c.poll.new.self) c.args.place fetch c.requires here removed ended.0,
      has_bytes c.args.self.now.ranges.now (session_state c.args.self.now) c.args.place fetch c.in-Ok-Some.bytes.items c.args.self.now.sound c.requires here ended.2,
      ended.1,
    )

pub returns-in-Err-Failed-clause-gives : goal.returns-in-Err-Failed-clause-gives
returns-in-Err-Failed-clause-gives g c =
    let fetch : Flight = record { owner = c.fetch.inside.owner; request = c.fetch.inside.request; at = c.fetch.inside.at; ticket = c.fetch.inside.ticket } in
    let here : fetch ≡ slice_index_or c.args.self.now.fetches.items c.args.place fetch = subst (λ (f : Flight). f ≡ slice_index_or c.args.self.now.fetches.items c.args.place f) (sym c.fetch.view_is) c.index-fetch.ensures in
    let ended = rw c.in-Err-Failed.field-0-is at c.in-Err-Failed.ensures in
    let removed : c.remove-in-Err-Failed.new.self.items ≡ remove c.args.self.now.fetches.items c.args.place = search rules in (
      ends_here c.args.self.now.ranges.now (waits c.args.self.now.waiting.segments) c.args.self.now.fetches.items c.remove-in-Err-Failed.new.self.items (g.S.SegmentSource.state c.args.self.now.source.now) (g.S.SegmentSource.state c.poll.new.self) c.args.place fetch c.requires here removed ended.0,
      ended.1,
    )
