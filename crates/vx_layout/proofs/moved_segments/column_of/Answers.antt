use Rattle.vx_layout.specs.Nodes.{node_data}
use Rattle.vx_layout.proofs.MovedParts.{column_has}
use Rattle.vx_layout.proofs.moved_segments.column_of.Goals as goal

pub returns-in-Ok-clause-column : goal.returns-in-Ok-clause-column
returns-in-Ok-clause-column c = column_has (node_data c.args.node.now) c.args.flat.old c.args.bytes.now c.in-Ok.column c.in-Ok.ensures.dtype c.in-Ok.ensures.spelled c.in-Ok.ensures.read
