use Rattle.std.proofs.Common.{length, refl}
use Rattle.vx_masks.proofs.Held.{shared_words, kept_words}
use Rattle.vx_masks.proofs.shared_words.held_words.Goals as goal

pub returns-then-is_empty : goal.returns-then-is_empty
returns-then-is_empty c = shared_words c.args.len c.args.kept.now c.is_empty.result c.is_empty.ensures c.if-is_empty.true c.requires

pub returns-else-is_empty : goal.returns-else-is_empty
returns-else-is_empty c = kept_words c.args.len (length c.args.kept.now) c.args.kept.now c.is_empty.result refl c.is_empty.ensures c.if-is_empty.false
