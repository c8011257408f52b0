use Rattle.vx_arrays.proofs.ArrayRanges.{numbers_array}
use Rattle.vx_arrays.proofs.arrays.Array.of_numbers.Goals as goal

pub invariant_of-result : goal.invariant_of-result
invariant_of-result c = numbers_array c.args.validity c.args.numbers c.requires.rows c.requires.held
