use Rattle.vx_arrays.proofs.ArrayRanges.{truths_array}
use Rattle.vx_arrays.proofs.arrays.Array.of_truths.Goals as goal

pub invariant_of-result : goal.invariant_of-result
invariant_of-result c = truths_array c.args.validity c.args.truths c.requires.rows c.requires.held
