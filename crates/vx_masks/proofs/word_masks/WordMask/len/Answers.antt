use Rattle.vx_masks.specs.Words.{number_of, held}
use Rattle.vx_masks.proofs.Built.{len_is}
use Rattle.vx_masks.proofs.word_masks.WordMask.len.Goals as goal

pub returns : goal.returns
returns c = len_is c.self.inside.len (number_of (held c.self.inside.len c.self.inside.words.items)) c.args.self.now c.self.view_is
