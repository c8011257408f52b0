use Rattle.std.proofs.Common.{false}
use Rattle.vx_masks.specs.Rows.{taken}
use Rattle.vx_masks.proofs.Built.{Built}
use Rattle.vx_masks.proofs.masks.Mask.take.Given as goal

abbrev pub invariant-loop-index : goal.invariant-loop-index
invariant-loop-index l = Built (taken false l.self l.places) l.index l.words.items
