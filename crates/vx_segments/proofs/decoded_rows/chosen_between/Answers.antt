use Rattle.std.proofs.Common.{arith}
use Rattle.vx_segments.proofs.ChosenRows.{first_last, last_inside}
use Rattle.vx_segments.proofs.decoded_rows.chosen_between.Goals as goal

pub returns-in-Some-last-clause-forwards : goal.returns-in-Some-last-clause-forwards
returns-in-Some-last-clause-forwards c = omega (arith, first_last c.args.mask.now c.in-Some.first c.in-Some-last.last c.in-Some.ensures.before c.in-Some-last.ensures.here)

pub returns-in-Some-last-clause-inside : goal.returns-in-Some-last-clause-inside
returns-in-Some-last-clause-inside c = last_inside c.args.mask.now c.in-Some-last.last c.in-Some-last.ensures.here

pub overflow_add-end : goal.overflow_add-end
overflow_add-end c = omega (arith, last_inside c.args.mask.now c.in-Some-last.last c.in-Some-last.ensures.here, c.len-rows.ensures)
