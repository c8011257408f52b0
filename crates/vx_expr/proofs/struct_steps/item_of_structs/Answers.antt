use Rattle.std.proofs.Common.{List, length, map, ap, ◌∙◌}
use Rattle.vx_operators.specs.declared.columnar_values.ColumnarValue.{ColumnarValue}
use Rattle.vx_operators.specs.ColumnarValues.{columnar_rows}
use Rattle.vx_expr.specs.Packs.{rows_along}
use Rattle.vx_expr.proofs.StructSteps.{item_enough, item_front}
use Rattle.vx_expr.proofs.struct_steps.item_of_structs.Goals as goal

pub first-requires : goal.first-requires
first-requires c =
    let n = c.args.rows in
    let columnar_values = c.args.columnar_values.items in
    let counted = c.fewest_rows-count.ensures ∙ ap (λ (values : List ColumnarValue). length (rows_along n (map columnar_rows values))) c.as_slice.ensures.value in
    record { rows = item_enough n columnar_values c.args.place c.fewest_rows-count.result c.swap_remove-item.result c.requires c.swap_remove-item.ensures.value counted }

pub returns : goal.returns
returns c =
    let n = c.args.rows in
    let columnar_values = c.args.columnar_values.items in
    let counted = c.fewest_rows-count.ensures ∙ ap (λ (values : List ColumnarValue). length (rows_along n (map columnar_rows values))) c.as_slice.ensures.value in
    item_front n columnar_values c.args.place c.fewest_rows-count.result c.swap_remove-item.result c.in_ok-first.first c.requires c.swap_remove-item.ensures.value counted c.in_ok-first.ensures.rows
