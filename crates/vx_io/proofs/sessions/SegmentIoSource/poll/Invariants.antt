use Rattle.std.proofs.Common.{◌≡◌, length}
use Rattle.vx_io.specs.Polls.{AllGoOn}
use Rattle.vx_io.specs.Tables.{session_state, KeepsLoans}
use Rattle.vx_io.proofs.sessions.SegmentIoSource.poll.Given as goal

abbrev pub invariant-loop-place : goal.invariant-loop-place
invariant-loop-place g l =
    AllGoOn l.place (session_state l.fn.self) (session_state l.self) × KeepsLoans l.fn.self l.self × (l.place-end ≡ length l.fn.self.fetches.items)
