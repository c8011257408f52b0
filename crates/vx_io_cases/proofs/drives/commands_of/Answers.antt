use Rattle.std.proofs.Common.{ap}
use Rattle.vx_io_cases.proofs.FetchedCommands.{wanted_from, commands_distinct}
use Rattle.vx_io_cases.proofs.drives.commands_of.Goals as goal

pub returns : goal.returns
returns c =
    commands_distinct c.new-commands.result.items c.push.new.self.items c.push_polls.new.commands.items c.push-2.new.self.items c.push_polls-2.new.commands.items _ _ _ c.request.result c.request-2.result c.request-3.result
    c.new-commands.ensures.items c.in_ok-push.ensures.items c.in_ok-push_polls.ensures c.in_ok-push-2.ensures.items c.in_ok-push_polls-2.ensures
    (ap (wanted_from _) c.in_ok-batch.ensures.items) (ap (wanted_from _) c.in_ok-batch-2.ensures.items) c.request.ensures c.request-2.ensures c.request-3.ensures
