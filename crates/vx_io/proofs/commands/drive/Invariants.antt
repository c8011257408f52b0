use Rattle.std.proofs.Common.{◌≡◌, ◌++◌, None, length}
use Rattle.vx_io.specs.Tables.{session_state, KeepsLoans}
use Rattle.vx_io.proofs.Driving.{Driving}
use Rattle.vx_io.proofs.commands.drive.Given as goal

abbrev pub invariant-loop-command : goal.invariant-loop-command
invariant-loop-command g l =
    Driving l.fn.session.ranges.now l.yielded l.driven.completions.items (session_state l.fn.session) (session_state l.session)
    × (l.driven.done ≡ length l.yielded) × (l.driven.error ≡ None) × (l.yielded ++ l.command-iterator.rest.items ≡ l.fn.commands.items) × KeepsLoans l.fn.session l.session
