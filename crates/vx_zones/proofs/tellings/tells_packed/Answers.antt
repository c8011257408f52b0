use Rattle.std.proofs.Common.{◌∙◌, arith}
use Rattle.vx_operators.specs.ColumnarValues.{scalar_datum}
use Rattle.vx_zones.proofs.ToldRows.{packed_tells}
use Rattle.vx_zones.proofs.tellings.tells_packed.Goals as goal

pub returns-in-Truths : goal.returns-in-Truths
returns-in-Truths c =
    let front_is = rw c.in-Some.is at c.in_ok-compared.ensures.values in
    let view = c.in-Truths.ensures.array_view in
    c.in_ok-mask-in-Truths.ensures
    ∙ packed_tells c.args.op (scalar_datum c.args.scalar) c.args.array.now.values c.in-Some.made.values c.len-rows.result c.len.result c.in-Truths.field-0.now c.in-Truths.truths.now
    c.len-rows.ensures front_is c.len.ensures (omega arith) c.in-Truths.ensures.values view.0 view.1
