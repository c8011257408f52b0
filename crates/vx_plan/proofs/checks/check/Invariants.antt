use Rattle.std.proofs.Common.{map}
use Rattle.vx_plan.specs.Nodes.{node_data}
use Rattle.vx_plan.specs.Rules.{nodes_at}
use Rattle.vx_plan.proofs.Broken.{KeepsBelow}
use Rattle.vx_plan.proofs.checks.check.Given as goal

abbrev pub invariant-loop-number : goal.invariant-loop-number
invariant-loop-number l = KeepsBelow (node_data l.node) (nodes_at (map node_data l.nodes) l.node.children) l.number
