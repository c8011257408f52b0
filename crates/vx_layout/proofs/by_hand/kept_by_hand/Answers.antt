use Rattle.std.proofs.Common.{refl}
use Rattle.vx_layout.proofs.by_hand.kept_by_hand.Goals as goal

pub returns-clause-got : goal.returns-clause-got
returns-clause-got c = refl

pub returns-clause-in_order : goal.returns-clause-in_order
returns-clause-in_order c = refl

pub returns-clause-bare : goal.returns-clause-bare
returns-clause-bare c = refl

pub returns-clause-not_used : goal.returns-clause-not_used
returns-clause-not_used c = refl
