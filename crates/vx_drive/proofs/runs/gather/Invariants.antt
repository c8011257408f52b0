use Rattle.std.proofs.Common.{◌≡◌}
use Rattle.vx_io.specs.Tables.{session_state, KeepsLoans}
use Rattle.vx_drive.specs.Adaptors.{adaptor_data}
use Rattle.vx_drive.proofs.SessionRuns.{Running, work}
use Rattle.vx_drive.proofs.runs.gather.Given as goal

abbrev pub invariant-turns : goal.invariant-turns
invariant-turns g l =
    Running l.fn.adaptor.locations.now (adaptor_data l.fn.adaptor).scan (session_state l.fn.session).source l.outputs.items (adaptor_data l.adaptor) (session_state l.session)
    × KeepsLoans l.fn.session l.session × (l.adaptor.locations.now ≡ l.fn.adaptor.locations.now)

abbrev pub decreases-turns : goal.decreases-turns
decreases-turns g l = work l.fn.adaptor.locations.now (adaptor_data l.adaptor)
