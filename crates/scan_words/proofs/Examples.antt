-- The command lines of `specs/Lines.antt`, by computing what `clap` states of words that are written out.
use Rattle.std.proofs.Common.{refl}
use Rattle.clap.proofs.OnLiterals.{clap_on_literals}
use Rattle.scan_words.specs.Grammar.{demo_app, parse_rows, read_app, scan_app, tree_app}
use Rattle.scan_words.specs.Lines.{AskAsTold, AskNothing}
use Rattle.scan_words.specs.Numbers.{number_between}
use Rattle.scan_words.specs.SplitRules.{split_rule}
use Rattle.scan_words.specs.Words.{demo_command, idle_limit, mode_command, read_command, scan_command, split_choice, tree_command, worker_count}

pub asking : AskAsTold
unfolding mode_command parse_rows demo_app read_app scan_app tree_app demo_command read_command scan_command tree_command number_between worker_count idle_limit split_choice split_rule clap_on_literals
asking = refl

pub faulty : AskNothing
unfolding mode_command parse_rows demo_app read_app scan_app tree_app demo_command read_command scan_command tree_command number_between worker_count idle_limit split_choice split_rule clap_on_literals
faulty = refl
