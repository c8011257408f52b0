use Rattle.std.proofs.Common.{Err, length, refl}
use Rattle.vx_layout.specs.Nodes.{node_data}
use Rattle.vx_layout.proofs.MovedParts.{hinders_also, spelled_for}
use Rattle.vx_layout.proofs.moved_segments.spelling_of.Goals as goal

pub returns-in-Some-clause-hindered : goal.returns-in-Some-clause-hindered
returns-in-Some-clause-hindered c = hinders_also c.args.flat.number (node_data c.args.node.now) c.args.flat.new c.args.column.now.values c.in-Some.error c.in-Some.ensures

pub returns-in-Ok-clause-spelled : goal.returns-in-Ok-clause-spelled
returns-in-Ok-clause-spelled c =
    let column = c.args.column.now in
    spelled_for c.args.flat.new (node_data c.args.node.now).dtype column.dtype c.args.node.now.row_count (length column.values) c.in-Ok.bytes.items column.values c.requires.dtype c.requires.count c.in-Ok.ensures.spelled

pub returns-in-Err-NotConstant-clause-hindered : goal.returns-in-Err-NotConstant-clause-hindered
returns-in-Err-NotConstant-clause-hindered c =
    let told = c.in-Err-NotConstant.ensures.other c.in-Err-NotConstant.row (λ i. Err (c.in-Err-NotConstant.field-0-is i)) in
    (refl, c.in-None.ensures.few, told.0, told.1)
