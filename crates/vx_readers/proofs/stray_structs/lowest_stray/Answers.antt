use Rattle.std.proofs.Common.{◌≤◌, length, sym, ap, ◌∙◌, arith}
use Rattle.std.specs.List.{slice_get}
use Rattle.vx_layout.specs.Nodes.{node_data}
use Rattle.vx_readers.proofs.StrayChildren.{root_stray, stray_is, struct_zones}
use Rattle.vx_readers.proofs.stray_structs.lowest_stray.Goals as goal

pub returns-then-is_struct-clause-stray : goal.returns-then-is_struct-clause-stray
returns-then-is_struct-clause-stray c = λ some.
    root_stray c.args.tree.now (node_data c.node.result.now) c.node.ensures.good (ap (slice_get c.args.tree.now) (sym c.root.ensures.zero) ∙ c.node.ensures.at) c.if-is_struct.ensures

pub returns-clause-none : goal.returns-clause-none
returns-clause-none c =
    let all : length c.args.tree.now ≤ c.loop-node.node = omega (arith, c.loop-node-test.false, c.len-node-end.ensures.count, c.loop-node.auto.node-end) in
    struct_zones c.args.tree.now (node_data c.node.result.now) c.loop-node.node c.loop-node.lowest c.node.ensures.good (ap (slice_get c.args.tree.now) (sym c.root.ensures.zero) ∙ c.node.ensures.at) c.if-is_struct.ensures all c.loop-node.invariant.most c.loop-node.invariant.none

pub returns-clause-stray : goal.returns-clause-stray
returns-clause-stray c = λ low. stray_is c.args.tree.now c.node.ensures.good c.loop-node.lowest (c.loop-node.invariant.stray low)
