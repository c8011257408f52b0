use Rattle.std.proofs.Common.{map}
use Rattle.vx_layout.specs.Nodes.{node_data}
use Rattle.vx_layout.proofs.FirstFaults.{KeepsBelow}
use Rattle.vx_layout.proofs.shape.first_broken.Given as goal

abbrev pub invariant-loop-at : goal.invariant-loop-at
invariant-loop-at l = KeepsBelow (map node_data l.nodes) l.number l.at
