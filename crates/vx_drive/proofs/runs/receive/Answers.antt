use Rattle.std.proofs.Common.{refl}
use Rattle.vx_io.specs.Tables.{session_state}
use Rattle.vx_drive.proofs.runs.receive.Goals as goal

pub hand_in-requires : goal.hand_in-requires
hand_in-requires g c =
    c.requires.fetches c.in-Ok.completion (session_state c.next_completion.new.session) (c.in-Ok.ensures {u = tt}).gives.ended

pub returns-in-Ok-clause-gives : goal.returns-in-Ok-clause-gives
returns-in-Ok-clause-gives g c = record { completion = c.in-Ok.completion; done = (c.in-Ok.ensures {u = tt}).gives; takes = c.hand_in.ensures.takes }

pub returns-in-Err-clause-gives : goal.returns-in-Err-clause-gives
returns-in-Err-clause-gives g c = ((c.in-Err.ensures {u = tt}).gives, refl)
