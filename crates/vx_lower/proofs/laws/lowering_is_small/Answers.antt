use Rattle.std.proofs.Common.{arith}
use Rattle.vx_layout.proofs.Ruled.{good_sound}
use Rattle.vx_layout.specs.Trees.{subtree}
use Rattle.vx_lower.proofs.LoweredSizes.{lowered_size}
use Rattle.vx_lower.proofs.TreeSizes.{tree_has_each_node}
use Rattle.vx_lower.proofs.laws.lowering_is_small.Goals as goal

pub returns-clause-plans : goal.returns-clause-plans
returns-clause-plans c = lowered_size

pub returns-clause-nodes : goal.returns-clause-nodes
returns-clause-nodes c = tree_has_each_node

pub returns-clause-both : goal.returns-clause-both
returns-clause-both c = λ nodes kept good. omega (arith, lowered_size (subtree nodes 0) kept (good_sound nodes good 0 good.nonempty), tree_has_each_node nodes good)
