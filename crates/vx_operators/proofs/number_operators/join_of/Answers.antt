use Rattle.std.proofs.Common.{◌∙◌, Some, List, length, sym, ap}
use Rattle.std.proofs.lemmas.Result.{IfOk-weaker}
use Rattle.vx_types.specs.Data.{Datum, int_type}
use Rattle.vx_operators.specs.Operators.{arithmetic_of}
use Rattle.vx_operators.specs.Rows.{along, front}
use Rattle.vx_operators.specs.Sides.{side_rows}
use Rattle.vx_operators.specs.ColumnarValues.{columnar_rows}
use Rattle.vx_operators.proofs.SideRows.{side_count}
use Rattle.vx_operators.proofs.number_operators.join_of.Goals as goal

pub join_numbers-requires-clause-rows : goal.join_numbers-requires-clause-rows
join_numbers-requires-clause-rows g c =
    sym (side_count g.T.Kind.number c.side-right.result c.side-right.ensures.side) ∙ ap length c.side-right.ensures.rows ∙ c.requires.rows ∙ sym (ap length c.side-left.ensures.rows) ∙ side_count g.T.Kind.number c.side-left.result c.side-left.ensures.side

pub returns-clause-values : goal.returns-clause-values
returns-clause-values g c =
    IfOk-weaker c.join_numbers.result _ _
    (λ array is n.
    let step = arithmetic_of c.args.op (Some (int_type g.T.Kind.kind n)) in
    is n ∙ ap (λ (vs : List Datum). front (along step vs (side_rows g.T.Kind.number c.side-right.result))) c.side-left.ensures.rows
    ∙ ap (λ (vs : List Datum). front (along step (columnar_rows c.args.left.now) vs)) c.side-right.ensures.rows) c.join_numbers.ensures.values
