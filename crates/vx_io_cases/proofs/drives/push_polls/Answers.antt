use Rattle.std.proofs.Common.{◌∙◌, ap}
use Rattle.vx_io.specs.Drive.{fetches_in}
use Rattle.vx_io.proofs.MoreFetches.{no_wanted}
use Rattle.vx_io_cases.proofs.drives.push_polls.Goals as goal

pub loop-poll-preserved : goal.loop-poll-preserved
loop-poll-preserved c = ap fetches_in c.in_ok-push.ensures.items ∙ no_wanted c.loop-poll.commands.items ∙ c.loop-poll.invariant
