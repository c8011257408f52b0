use Rattle.vx_layout.specs.Nodes.{node_data}
use Rattle.vx_reads.proofs.NodeTrees.{dtype_is}
use Rattle.vx_reads.proofs.parts.dtype_at.Goals as goal

pub returns : goal.returns
returns c = dtype_is c.args.tree.now c.args.node (node_data c.node.result.now) c.node.ensures.good c.node.ensures.at
