use Rattle.std.proofs.Common.{sym, ap, ◌∙◌}
use Rattle.vx_operators.specs.ColumnarValues.{columnar_rows}
use Rattle.vx_expr.specs.declared.packing.Packing.{Packing}
use Rattle.vx_expr.specs.Rows.{along}
use Rattle.vx_expr.specs.Steps.{appended, packing_rows}
use Rattle.vx_expr.proofs.PackRows.{columnar_push}
use Rattle.vx_expr.proofs.packing.Packing.with_columnar.Goals as goal

pub returns-in_ok-push-in-ColumnarValues : goal.returns-in_ok-push-in-ColumnarValues
returns-in_ok-push-in-ColumnarValues c =
    let all = c.in-ColumnarValues in
    columnar_push all.rows all.columnar_values.items c.push.new.self.items c.args.columnar c.in_ok-push-in-ColumnarValues.ensures.items
    ∙ ap (λ (packing : Packing). along appended (packing_rows packing) (columnar_rows c.args.columnar)) (sym all.is)
