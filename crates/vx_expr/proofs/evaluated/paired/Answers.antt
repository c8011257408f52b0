use Rattle.vx_expr.proofs.RowValueRows.{firsts_paired}
use Rattle.vx_expr.proofs.evaluated.paired.Goals as goal

pub returns-in_ok-left-in-Packed-Packed : goal.returns-in_ok-left-in-Packed-Packed
returns-in_ok-left-in-Packed-Packed c =
    let b = c.in-Packed-Packed in
    let first = c.in_ok-left-in-Packed-Packed in
    firsts_paired c.two_of_columnar.result c.args.step c.args.left c.args.right b.left first.left b.right c.len.result b.is-0 b.is-1 c.len.ensures first.ensures.rows c.two_of_columnar.ensures
