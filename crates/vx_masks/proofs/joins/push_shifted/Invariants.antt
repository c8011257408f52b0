use Rattle.std.proofs.Common.{length, take}
use Rattle.vx_masks.specs.Words.{number_of}
use Rattle.vx_masks.proofs.Joined.{Appended}
use Rattle.vx_masks.proofs.joins.push_shifted.Given as goal

abbrev pub invariant-loop-word : goal.invariant-loop-word
invariant-loop-word l = Appended (number_of l.fn.words.items) l.carry l.shift (length l.fn.words.items) (take l.word-index l.others) l.words.items l.rest
