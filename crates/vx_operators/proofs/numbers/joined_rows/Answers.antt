use Rattle.std.proofs.Common.{pos}
use Rattle.vx_operators.specs.Kernels.{exact_inside, of_two}
use Rattle.vx_operators.specs.Rows.{front}
use Rattle.vx_operators.specs.Sides.{side_numbers}
use Rattle.vx_operators.proofs.Steps.{more_joined, joined_fault}
use Rattle.vx_operators.proofs.numbers.joined_rows.Goals as goal

pub loop-row-preserved : goal.loop-row-preserved
loop-row-preserved g c =
    let ls = side_numbers g.T.Kind.number c.args.left in
    let rs = side_numbers g.T.Kind.number c.args.right in
    let op = exact_inside g.T.Kind.kind c.args.op in
    more_joined g.T.Kind.number op (pos 0) c.args.valid.now ls rs c.loop-row.made.items c.push.new.self.items (front (of_two op (pos 0) c.args.valid.now ls rs)) c.loop-row.row c.value.result (g.T.Kind.number c.at.result) (g.T.Kind.number c.at-in-loop-row.result) c.in-Some.number
    c.value.ensures c.at.ensures c.at-in-loop-row.ensures c.in-Some.ensures c.in_ok-push-in-Some.ensures.items c.loop-row.invariant

pub returns-in-None : goal.returns-in-None
returns-in-None g c =
    let ls = side_numbers g.T.Kind.number c.args.left in
    let rs = side_numbers g.T.Kind.number c.args.right in
    let op = exact_inside g.T.Kind.kind c.args.op in
    joined_fault g.T.Kind.number op (pos 0) c.args.valid.now ls rs c.loop-row.made.items (front (of_two op (pos 0) c.args.valid.now ls rs)) c.loop-row.row c.value.result (g.T.Kind.number c.at.result) (g.T.Kind.number c.at-in-loop-row.result)
    c.value.ensures c.at.ensures c.at-in-loop-row.ensures c.in-None.ensures c.loop-row.invariant
