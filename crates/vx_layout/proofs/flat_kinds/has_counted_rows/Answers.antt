use Rattle.std.proofs.Common.{List, below_more, refl, arith}
use Rattle.vx_layout.specs.Nodes.{Node, node_data}
use Rattle.vx_layout.proofs.CountedFlats.{counted_all, counted_here, counted_node, CountedAt}
use Rattle.vx_layout.proofs.flat_kinds.has_counted_rows.Goals as goal

pub loop-number-preserved : goal.loop-number-preserved
loop-number-preserved c =
    let nodes : List Node = c.args.tree.now in
    let l = c.loop-number in
    below_more (CountedAt nodes) l.number l.invariant (counted_here nodes l.number (node_data c.node.result.now) c.node.ensures.at (c.if-not-is_counted.ensures.0 refl))

pub returns-then-not-is_counted : goal.returns-then-not-is_counted
returns-then-not-is_counted c = (
  λ t. absurd cc,
  λ h. let yes = c.if-not-is_counted.ensures.1 (counted_node c.args.tree.now c.loop-number.number (node_data c.node.result.now) h c.node.ensures.at) in absurd cc,
)

pub returns : goal.returns
returns c =
    let l = c.loop-number in
    (λ t. counted_all c.args.tree.now (λ n lt. l.invariant n (omega (arith, c.len-number-end.ensures.count, c.loop-number-test.false))), λ h. refl)
