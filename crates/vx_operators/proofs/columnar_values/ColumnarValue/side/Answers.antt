use Rattle.std.proofs.Common.{◌∙◌, sym}
use Rattle.vx_operators.proofs.ScalarRows.{number_rows, null_rows}
use Rattle.vx_operators.proofs.columnar_values.ColumnarValue.side.Goals as goal

pub returns-then-is_null-clause-rows : goal.returns-then-is_null-clause-rows
returns-then-is_null-clause-rows g c = rw c.in-Same.is (null_rows c.in-Same.scalar c.in-Same.rows (sym c.is_null.ensures ∙ c.if-is_null.true))

pub returns-else-is_null-clause-rows : goal.returns-else-is_null-clause-rows
returns-else-is_null-clause-rows g c =
    let kind = rw c.in-Same.is at c.requires.kind in
    rw c.in-Same.is (number_rows c.in-Same.scalar g.T.Kind.kind c.in-Same.rows (g.T.Kind.number c.scalar_number.result) c.scalar_number.ensures kind (sym c.is_null.ensures ∙ c.if-is_null.false))
