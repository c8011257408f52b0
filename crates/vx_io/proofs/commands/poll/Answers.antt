use Rattle.std.proofs.Common.{inr, rules}
use Rattle.vx_io.proofs.commands.poll.Goals as goal

pub returns-in-Ok-Some-clause-gives : goal.returns-in-Ok-Some-clause-gives
returns-in-Ok-Some-clause-gives g c = inr (c.in-Ok-Some.completion, search rules, search rules)
