use Rattle.std.proofs.Common.{List, true, false, sym, ◌∙◌, arith}
use Rattle.vx_layout.specs.Nodes.{Node, node_data}
use Rattle.vx_layout.proofs.CountedFlats.{count_next}
use Rattle.vx_layout.proofs.flat_kinds.flat_nodes.Goals as goal
use Rattle.vx_layout.proofs.flat_kinds.flat_nodes.Goals.{then-is_flat, else-is_flat}

pub loop-number-preserved : goal.loop-number-preserved
loop-number-preserved c =
    let nodes : List Node = c.args.tree.now in
    let node : Node = node_data c.node.result.now in
    let l = c.loop-number in
    elim c.if-is_flat.branch [
      | then-is_flat w ↦ (
        count_next nodes l.number node l.count c.if-is_flat.count true c.node.ensures.at (sym w.if-is_flat.true ∙ c.is_flat.ensures) l.invariant.0 (omega (arith, w.count-is)),
        omega (arith, w.count-is, l.invariant.1),
      )
      | else-is_flat w ↦ (
        count_next nodes l.number node l.count c.if-is_flat.count false c.node.ensures.at (sym w.if-is_flat.false ∙ c.is_flat.ensures) l.invariant.0 (omega (arith, w.count-is)),
        omega (arith, w.count-is, l.invariant.1),
      )
    ]
