use Rattle.std.proofs.Common.{refl}
use Rattle.std.specs.Fmt.{digits}
use Rattle.scan_commands.proofs.by_hand.commands_by_hand.Goals as goal

pub returns-clause-two_lines : goal.returns-clause-two_lines
unfolding digits
returns-clause-two_lines c = refl
