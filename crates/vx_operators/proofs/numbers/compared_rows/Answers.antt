use Rattle.vx_operators.specs.Kernels.{compares}
use Rattle.vx_operators.specs.Rows.{along}
use Rattle.vx_operators.specs.Sides.{side_numbers}
use Rattle.vx_operators.proofs.Steps.{more_along}
use Rattle.vx_operators.proofs.numbers.compared_rows.Goals as goal

pub loop-row-preserved : goal.loop-row-preserved
loop-row-preserved g c =
    let ls = side_numbers g.T.Kind.number c.args.left in
    let rs = side_numbers g.T.Kind.number c.args.right in
    more_along (compares c.args.op) ls rs c.loop-row.truths.items c.push.new.self.items (along (compares c.args.op) ls rs) c.loop-row.row (g.T.Kind.number c.at.result) (g.T.Kind.number c.at-in-loop-row.result) c.test.result c.at.ensures c.at-in-loop-row.ensures c.test.ensures c.in_ok-push.ensures.items c.loop-row.invariant
