use Rattle.vx_outside.specs.ScriptSources.{script_state}
use Rattle.vx_readers_cases.proofs.Sparing.{mask_goes, mask_ready}
use Rattle.vx_readers_cases.proofs.running.poll_mask.Goals as goal

pub returns-in_ok-written-in-Ok-Ready : goal.returns-in_ok-written-in-Ok-Ready
returns-in_ok-written-in-Ok-Ready c =
    mask_ready c.args.state c.in-Ok-Ready.mask (script_state c.args.source.now) (script_state c.poll.new.source) (rw c.in-Ok-Ready.field-0-is at c.in-Ok-Ready.ensures)

pub returns-in-Ok : goal.returns-in-Ok
returns-in-Ok c =
    mask_goes c.args.state c.in-Ok-Pending.next (script_state c.args.source.now) (script_state c.poll.new.source) (rw c.in-Ok-Pending.field-0-is at c.in-Ok-Pending.ensures)
