use Rattle.std.proofs.Common.{◌≡◌, ◌∙◌, Option, Some, ap}
use Rattle.vx_base.specs.declared.dtypes.IntKind.{IntKind}
use Rattle.vx_operators.specs.ColumnarValues.{columnar_rows}
use Rattle.vx_expr.specs.declared.steps.TwoStep.TheVariants.{Arith}
use Rattle.vx_expr.proofs.RowValueRows.{joined_whole}
use Rattle.vx_expr.proofs.evaluated.whole_two.Goals as goal

pub returns-in-Arith-default-Some : goal.returns-in-Arith-default-Some
returns-in-Arith-default-Some c =
    let b = c.in-Arith-default-Some in
    let kind : b.field-1 ≡ Some b.kind = rw b.is at b.field-1-is in
    joined_whole c.join_columnar.result b.op b.kind c.args.step (columnar_rows c.args.left.now) (columnar_rows c.args.right.now) (b.is ∙ ap (λ (k : Option IntKind). Arith b.op k) kind) c.join_columnar.ensures.values
