use Rattle.std.proofs.Common.{◌-◌}
use Rattle.vx_io.specs.Tables.{session_state, KeepsLoans}
use Rattle.vx_io.specs.Polls.{AllGoOn}
use Rattle.vx_drive.proofs.waits.next_completion.Given as goal

abbrev pub invariant-waiting : goal.invariant-waiting
invariant-waiting g l = AllGoOn l.idle (session_state l.fn.session) (session_state l.session) × KeepsLoans l.fn.session l.session

abbrev pub decreases-waiting : goal.decreases-waiting
decreases-waiting g l = l.idle_limit - l.idle
