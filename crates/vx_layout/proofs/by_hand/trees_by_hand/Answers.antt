use Rattle.std.proofs.Common.{refl}
use Rattle.vx_layout.specs.Depths.{depth_within}
use Rattle.vx_layout.specs.Trees.{grow}
use Rattle.vx_layout.proofs.FirstFaults.{no_nodes}
use Rattle.vx_layout.proofs.by_hand.trees_by_hand.Goals as goal

pub returns-clause-no_nodes : goal.returns-clause-no_nodes
returns-clause-no_nodes c = no_nodes _ refl

pub returns-clause-depth : goal.returns-clause-depth
unfolding depth_within
returns-clause-depth c = refl

pub returns-clause-grown : goal.returns-clause-grown
unfolding grow
returns-clause-grown c = refl

pub returns-clause-second : goal.returns-clause-second
unfolding grow
returns-clause-second c = refl

pub returns-clause-behind : goal.returns-clause-behind
unfolding grow
returns-clause-behind c = refl
