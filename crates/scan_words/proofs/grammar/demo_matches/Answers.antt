use Rattle.std.proofs.Common.{◌∙◌, ap}
use Rattle.clap.specs.Words.{is_simple_and_free}
use Rattle.scan_words.proofs.Simple.{demo_is_simple}
use Rattle.scan_words.proofs.grammar.demo_matches.Goals as goal

pub parse-requires : goal.parse-requires
parse-requires c = ap is_simple_and_free c.in_ok-demo.ensures ∙ demo_is_simple
