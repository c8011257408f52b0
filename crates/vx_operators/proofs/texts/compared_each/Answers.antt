use Rattle.vx_operators.specs.Kernels.{compares_text}
use Rattle.vx_operators.specs.Rows.{along}
use Rattle.vx_operators.specs.TextSides.{side_texts}
use Rattle.vx_operators.proofs.Steps.{more_along}
use Rattle.vx_operators.proofs.texts.compared_each.Goals as goal

pub loop-row-preserved : goal.loop-row-preserved
loop-row-preserved c =
    let ls = side_texts c.args.left in
    let rs = side_texts c.args.right in
    more_along (compares_text c.args.op) ls rs c.loop-row.truths.items c.push.new.self.items (along (compares_text c.args.op) ls rs) c.loop-row.row c.at.result.now c.at-in-loop-row.result.now c.test_text.result c.at.ensures c.at-in-loop-row.ensures c.test_text.ensures c.in_ok-push.ensures.items c.loop-row.invariant
