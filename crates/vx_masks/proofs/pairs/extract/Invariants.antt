use Rattle.vx_masks.proofs.Extracted.{Extracted}
use Rattle.vx_masks.proofs.pairs.extract.Given as goal

abbrev pub invariant-loop-rest : goal.invariant-loop-rest
invariant-loop-rest l = Extracted l.mask l.value l.result l.count l.rest l.left

abbrev pub decreases-loop-rest : goal.decreases-loop-rest
decreases-loop-rest l = l.rest
