use Rattle.std.proofs.Common.{◌/◌, ◌^◌, ap₂, ◌∙◌, bit_and}
use Rattle.vx_masks.specs.Words.{number_of}
use Rattle.vx_masks.proofs.Numbers.{part_cut}
use Rattle.vx_masks.proofs.parts.part_of.Goals as goal

pub returns : goal.returns
returns c = ap₂ bit_and c.word_at.ensures c.low_ones.ensures ∙ part_cut (number_of c.args.words.now / 2 ^ c.args.place) c.args.count 64 c.requires
