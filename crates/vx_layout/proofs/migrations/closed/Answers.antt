use Rattle.std.proofs.Common.{List, map, subst}
use Rattle.vx_layout.specs.Faults.{RefusedBy}
use Rattle.vx_layout.specs.Nodes.{Node, node_data}
use Rattle.vx_layout.proofs.FaultLaws.{good_has_none}
use Rattle.vx_layout.proofs.migrations.closed.Goals as goal

pub unreachable-requires : goal.unreachable-requires
unreachable-requires c =
    let nodes : List Node = map node_data c.args.written.nodes.items in
    let arm = c.in-Err-BadLayout in
    good_has_none nodes arm.field-0-0 arm.field-0-1 c.requires.good (subst (RefusedBy nodes) arm.field-0-is arm.ensures.refused)
