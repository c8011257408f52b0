use Rattle.vx_io.specs.Tables.{session_state, KeepsLoans}
use Rattle.vx_io.proofs.Submitting.{Submitting}
use Rattle.vx_io.proofs.sessions.SegmentIoSource.submit.Given as goal

abbrev pub invariant-loop-request : goal.invariant-loop-request
invariant-loop-request g l =
    Submitting l.fn.self.ranges.now l.fn.owner l.request-items l.request-index l.taken (session_state l.fn.self) (session_state l.self) × KeepsLoans l.fn.self l.self
