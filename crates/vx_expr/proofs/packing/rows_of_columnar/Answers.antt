use Rattle.std.proofs.Common.{◌≡◌, List, map, ap, ◌∙◌, arith, rules}
use Rattle.std.proofs.lemmas.List.{length-map}
use Rattle.std.specs.Vec.Iter.{into_iter_items}
use Rattle.vx_operators.specs.declared.columnar_values.ColumnarValue.{ColumnarValue}
use Rattle.vx_operators.specs.ColumnarValues.{columnar_rows}
use Rattle.vx_expr.specs.Steps.{row_data}
use Rattle.vx_expr.proofs.PackRows.{extended, extended_all, extended_end}
use Rattle.vx_expr.proofs.packing.rows_of_columnar.Goals as goal

pub loop-columnar-init : goal.loop-columnar-init
loop-columnar-init c =
    let made = map row_data c.in_ok-made.made.items in
    let whole : into_iter_items c.into_iter-columnar-iterator.result ≡ c.args.columnar_values.items = search rules in
    ap (λ (columnar_values : List ColumnarValue). extended made (map columnar_rows columnar_values)) whole ∙ extended_all c.args.rows (map columnar_rows c.args.columnar_values.items) made c.in_ok-made.ensures

pub returns : goal.returns
returns c =
    let rest = into_iter_items c.loop-columnar.columnar-iterator in
    extended_end (map row_data c.loop-columnar.made.items) (map columnar_rows rest) _ (omega (arith, length-map rest columnar_rows, c.in-None.ensures.steps.0)) c.loop-columnar.invariant
