use Rattle.vx_masks.proofs.Ranks.{Deposited}
use Rattle.vx_masks.proofs.deposits.deposit_few.Given as goal

abbrev pub invariant-loop-left : goal.invariant-loop-left
invariant-loop-left l = Deposited l.word l.ranks l.result l.done l.rest l.left

abbrev pub decreases-loop-left : goal.decreases-loop-left
decreases-loop-left l = l.left
