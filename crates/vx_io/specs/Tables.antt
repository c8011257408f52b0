-- What a session is to its callers, and what each call on it keeps.
use Rattle.std.specs.Prelude.{◌≡◌}
use Rattle.vx_base.specs.declared.outside.SegmentSource.{Ghosts}
use Rattle.vx_io.specs.declared.sessions.SegmentIoSource.{SegmentIoSource}
use Rattle.vx_io.specs.Session.{SessionState, state_in, waits}

abbrev pub session_state : {S : Type 0} → {G : Ghosts S} → SegmentIoSource S G → SessionState
session_state {S} {G} session = state_in (waits session.waiting.segments) session.fetches.items (G.state session.source.now)

-- It holds the same lent source as before, and the same ranges.
pub record KeepsLoans {S : Type 0} {G : Ghosts S} (old new : SegmentIoSource S G) : Type 0 where
  pub same_reference : new.source.ghost_name ≡ old.source.ghost_name
  pub ranges : new.ranges.now ≡ old.ranges.now
