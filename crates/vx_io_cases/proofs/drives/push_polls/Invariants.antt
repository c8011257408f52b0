use Rattle.std.proofs.Common.{◌≡◌}
use Rattle.vx_io.specs.Drive.{fetches_in}
use Rattle.vx_io_cases.proofs.drives.push_polls.Given as goal

abbrev pub invariant-loop-poll : goal.invariant-loop-poll
invariant-loop-poll l = fetches_in l.commands.items ≡ fetches_in l.fn.commands.items
