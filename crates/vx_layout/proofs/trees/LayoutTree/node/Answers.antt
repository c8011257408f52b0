use Rattle.std.proofs.Common.{rules, List}
use Rattle.vx_layout.specs.Nodes.{Node, node_data}
use Rattle.vx_layout.specs.Shape.{IsGoodTree}
use Rattle.vx_layout.proofs.LaterChild.{later_children}
use Rattle.vx_layout.proofs.trees.LayoutTree.node.Goals as goal

pub returns-clause-later : goal.returns-clause-later
returns-clause-later c =
    let nodes : List Node = c.args.self.now in
    let good : IsGoodTree nodes = search rules in
    later_children nodes c.args.node (node_data c.node_at.result.now) good c.requires (search rules)
