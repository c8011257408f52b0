use Rattle.std.proofs.Common.{◌∙◌, ap}
use Rattle.clap.specs.Words.{is_simple_and_free}
use Rattle.scan_words.proofs.Simple.{tree_is_simple}
use Rattle.scan_words.proofs.grammar.tree_matches.Goals as goal

pub parse-requires : goal.parse-requires
parse-requires c = ap is_simple_and_free c.in_ok-tree.ensures ∙ tree_is_simple
