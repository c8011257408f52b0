use Rattle.std.proofs.Common.{[], sym, subst}
use Rattle.vx_base.specs.Leaf.{IsLeaf}
use Rattle.vx_layout.specs.Trees.{leaf}
use Rattle.vx_lower.specs.NodeParts.{tree_head}
use Rattle.vx_lower.proofs.Nodes.{sound_as}
use Rattle.vx_lower.proofs.lowering_whole.lower_leaf.Goals as goal

pub add_leaf-requires-clause-leaf : goal.add_leaf-requires-clause-leaf
add_leaf-requires-clause-leaf c = subst IsLeaf (sym c.in_ok-dtype.ensures) (sound_as c.args.tree.now c.args.node (leaf (tree_head c.args.tree.now c.args.node) c.args.segment c.args.coding) [] c.requires.can.tree c.requires.can.known c.requires.parts)
