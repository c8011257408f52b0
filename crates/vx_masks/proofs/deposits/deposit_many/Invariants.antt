use Rattle.vx_masks.proofs.Walked.{Walked}
use Rattle.vx_masks.proofs.deposits.deposit_many.Given as goal

abbrev pub invariant-loop-left : goal.invariant-loop-left
invariant-loop-left l = Walked l.word l.ranks l.result l.rest l.left

abbrev pub decreases-loop-left : goal.decreases-loop-left
decreases-loop-left l = l.left
