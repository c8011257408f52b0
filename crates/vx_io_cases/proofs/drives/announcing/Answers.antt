use Rattle.std.proofs.Common.{ap}
use Rattle.vx_io_cases.proofs.FetchedCommands.{wanted_from, one_distinct}
use Rattle.vx_io_cases.proofs.drives.announcing.Goals as goal

pub returns : goal.returns
returns c =
    one_distinct c.new-commands.result.items c.push.new.self.items c.push_polls.new.commands.items _ _ c.request.result c.new-commands.ensures.items c.in_ok-push.ensures.items c.in_ok-push_polls.ensures (ap (wanted_from _) c.in_ok-batch.ensures.items)
