use Rattle.std.proofs.Common.{map, drop, arith}
use Rattle.std.proofs.lemmas.List.{length-map, length-drop}
use Rattle.vx_expr.specs.Steps.{row_value_datum, two_step}
use Rattle.vx_expr.proofs.Fronts.{front_end}
use Rattle.vx_expr.proofs.evaluated.two_each.Goals as goal

pub returns : goal.returns
returns c =
    let lefts = drop c.loop-row.row c.args.lefts.now in
    let rights = drop c.loop-row.row c.args.rights.now in
    front_end (two_step c.args.step) (map row_value_datum lefts) (map row_value_datum rights) (map row_value_datum c.loop-row.made.items) _ (omega (arith, length-map rights row_value_datum, length-drop c.loop-row.row c.args.rights.now)) c.loop-row.invariant
