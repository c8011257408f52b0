use Rattle.vx_io.specs.Tables.{session_state}
use Rattle.vx_drive.specs.Adaptors.{adaptor_data}
use Rattle.vx_drive.proofs.JoinedRuns.{gather_joins}
use Rattle.vx_drive.proofs.runs.run.Goals as goal

pub returns-in-Ok-clause-gives : goal.returns-in-Ok-clause-gives
returns-in-Ok-clause-gives g c =
    gather_joins c.args.adaptor.now.locations.now c.args.idle_limit (adaptor_data c.args.adaptor.now).scan (adaptor_data c.gather.new.adaptor).scan c.gather.new.outputs.items c.joined.result (session_state c.args.session.now).source (session_state c.gather.new.session).source
    (c.in-Ok.ensures {u = tt}).gives c.joined.ensures.joined c.joined.ensures.memory
