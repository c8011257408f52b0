use Rattle.vx_layout.specs.Moving.{node_over}
use Rattle.vx_layout.specs.Nodes.{node_data}
use Rattle.vx_layout.proofs.MovedParts.{pushed_data}
use Rattle.vx_layout.proofs.migrations.Written.push_node.Goals as goal

pub returns-clause-pushed : goal.returns-clause-pushed
returns-clause-pushed c =
    pushed_data c.args.self.now.nodes.items _ c.in_ok-moved.moved (node_over (node_data c.args.node.now) c.args.place c.args.coding) c.in_ok-push.ensures.items c.in_ok-moved.ensures
