use Rattle.std.proofs.Common.{map}
use Rattle.vx_plan.specs.Nodes.{node_data}
use Rattle.vx_plan.specs.Rules.{nodes_at}
use Rattle.vx_plan.proofs.Offsets.{AreOffsetsSoFar}
use Rattle.vx_plan.proofs.concat_plans.offsets_of.Given as goal

abbrev pub invariant-loop-place : goal.invariant-loop-place
invariant-loop-place l = AreOffsetsSoFar (nodes_at (map node_data l.nodes) l.children) l.place l.rows l.offsets.items
