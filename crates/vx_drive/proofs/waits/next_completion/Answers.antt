use Rattle.vx_io.specs.Tables.{session_state}
use Rattle.vx_drive.proofs.Sessions.{completed}
use Rattle.vx_drive.proofs.waits.next_completion.Goals as goal

pub returns-in-Ok-Some-clause-gives : goal.returns-in-Ok-Some-clause-gives
returns-in-Ok-Some-clause-gives g c =
    completed c.waiting.session.ranges.now c.in-Ok-Some.completion c.waiting.idle (session_state c.args.session.now) (session_state c.waiting.session) (session_state c.poll_completion.new.self)
    c.waiting.invariant.0 (rw c.in-Ok-Some.field-0-is at (c.in-Ok-Some.ensures {u = tt}).gives)
