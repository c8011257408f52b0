use Rattle.std.proofs.Common.{◌∙◌}
use Rattle.vx_masks.specs.Words.{number_of}
use Rattle.vx_masks.proofs.Ranks.{low_bits-few}
use Rattle.vx_masks.proofs.word_masks.WordMask.with_room.Goals as goal

pub returns : goal.returns
returns c = c.of_words.ensures ∙ low_bits-few (number_of c.in_ok-words.words.items)
