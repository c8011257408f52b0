use Rattle.std.proofs.Common.{length, ap}
use Rattle.vx_arrays.specs.Numbers.{numbers_in}
use Rattle.vx_operators.proofs.NumberRows.{made_rows}
use Rattle.vx_operators.proofs.numbers.made_array.Goals as goal

pub of_numbers-requires-clause-rows : goal.of_numbers-requires-clause-rows
of_numbers-requires-clause-rows g c =
    made_rows g.T.Kind.number c.args.mask c.in_ok-validity.validity c.args.made.items (numbers_in c.as_numbers-numbers.result) (length c.as_slice.result.now) c.in_ok-validity.ensures c.as_numbers-numbers.ensures.numbers (ap length c.as_slice.ensures.value)
    c.requires.few
