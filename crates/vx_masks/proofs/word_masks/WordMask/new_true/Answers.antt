use Rattle.std.proofs.Common.{arith}
use Rattle.vx_masks.proofs.Held.{all_words, all_rows}
use Rattle.vx_masks.proofs.word_masks.WordMask.new_true.Goals as goal

pub invariant_of-result : goal.invariant_of-result
invariant_of-result c = all_words c.args.len c.new-words.result.items c.new-words.ensures.items (omega arith) (omega arith)

pub returns-then-len-eq0 : goal.returns-then-len-eq0
returns-then-len-eq0 c = all_rows c.args.len c.new-words.result.items c.new-words.ensures.items (omega arith)
