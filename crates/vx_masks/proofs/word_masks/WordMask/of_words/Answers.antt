use Rattle.vx_masks.proofs.Held.{own_words, own_rows}
use Rattle.vx_masks.proofs.word_masks.WordMask.of_words.Goals as goal

pub invariant_of-result : goal.invariant_of-result
invariant_of-result c = own_words c.args.len c.args.words.items c.requires

pub returns : goal.returns
returns c = own_rows c.args.len c.args.words.items c.requires
