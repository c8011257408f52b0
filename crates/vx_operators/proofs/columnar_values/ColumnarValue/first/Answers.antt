use Rattle.std.proofs.Common.{sym, arith}
use Rattle.std.proofs.lemmas.List.{length-replicate}
use Rattle.vx_operators.specs.ColumnarValues.{scalar_datum}
use Rattle.vx_operators.proofs.SideRows.{take_same}
use Rattle.vx_operators.proofs.columnar_values.ColumnarValue.first.Goals as goal

pub returns-in-Same-clause-rows : goal.returns-in-Same-clause-rows
returns-in-Same-clause-rows c =
    let b = c.in-Same in
    let rows = rw b.is at c.requires.rows in
    rw b.is (sym (take_same c.args.rows b.field-1 (scalar_datum b.scalar) (omega (arith, rows, length-replicate b.field-1 (scalar_datum b.scalar)))))
