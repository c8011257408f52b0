use Rattle.std.proofs.Common.{◌∙◌, ap}
use Rattle.std.proofs.lemmas.Result.{IfOk-weaker}
use Rattle.vx_base.specs.Columns.{ColumnData}
use Rattle.vx_operators.specs.ColumnarValues.{scalar_datum}
use Rattle.vx_expr.proofs.PackedColumns.{same_picked}
use Rattle.vx_expr.proofs.fitting.fitting_scalar.Goals as goal

pub returns-then-rows-eq0-clause-values : goal.returns-then-rows-eq0-clause-values
returns-then-rows-eq0-clause-values c = rw c.if-rows-eq0.true c.with_room.ensures.values

pub returns-clause-dtype : goal.returns-clause-dtype
returns-clause-dtype c = IfOk-weaker c.take.result _ _ (λ array is. ap (λ (a : ColumnData). a.dtype) is ∙ c.in_ok-one.ensures.dtype) c.take.ensures

pub returns-clause-values : goal.returns-clause-values
returns-clause-values c =
    let zeros = c.in_ok-places.ensures.items_if_clones_equal (λ y same. same) in
    IfOk-weaker c.take.result _ _
    (λ array is. same_picked (scalar_datum c.args.scalar.now) c.args.rows c.in_ok-one.one array c.as_slice.result.now c.in_ok-one.ensures.values (c.as_slice.ensures.value ∙ zeros) is) c.take.ensures
