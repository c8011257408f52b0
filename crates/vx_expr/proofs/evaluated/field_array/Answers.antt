use Rattle.vx_expr.proofs.RowValueRows.{field_found}
use Rattle.vx_expr.proofs.evaluated.field_array.Goals as goal

pub returns-then-all_true : goal.returns-then-all_true
returns-then-all_true c =
    let b = c.in-Structs in
    field_found c.args.place b.validity.now b.parts.now.rows c.args.array.now.values c.array.result b.ensures.values b.ensures.array_view (c.all_true.ensures.0 c.if-all_true.true) c.array.ensures.found
