use Rattle.std.proofs.Common.{rules, List}
use Rattle.vx_layout.specs.Nodes.{Node}
use Rattle.vx_layout.specs.Shape.{IsGoodTree}
use Rattle.vx_layout.proofs.LaterChild.{later_child}
use Rattle.vx_layout.proofs.trees.LayoutTree.child.Goals as goal

pub returns-clause-later : goal.returns-clause-later
returns-clause-later c =
    let nodes : List Node = c.args.self.now in
    let good : IsGoodTree nodes = search rules in
    later_child nodes c.args.node c.args.place c.child_number.result good c.requires (search rules)
