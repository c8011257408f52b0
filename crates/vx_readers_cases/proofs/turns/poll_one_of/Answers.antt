use Rattle.vx_outside.specs.ScriptSources.{script_state}
use Rattle.vx_readers_cases.proofs.Sparing.{first_goes, second_goes}
use Rattle.vx_readers_cases.proofs.turns.poll_one_of.Goals as goal

pub returns-in-Ok : goal.returns-in-Ok
returns-in-Ok c =
    first_goes c.args.both.one c.args.both.two c.in-Ok.one (script_state c.args.source.now) (script_state c.poll_once.new.source) c.requires c.in-Ok.ensures

pub returns-in-Ok-poll_once : goal.returns-in-Ok-poll_once
returns-in-Ok-poll_once c =
    second_goes c.args.both.one c.args.both.two c.in-Ok-poll_once.two (script_state c.args.source.now) (script_state c.poll_once-else-letter-eq49.new.source) c.requires c.in-Ok-poll_once.ensures
