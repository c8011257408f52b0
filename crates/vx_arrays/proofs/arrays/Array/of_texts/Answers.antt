use Rattle.vx_arrays.proofs.ArrayRanges.{texts_array}
use Rattle.vx_arrays.proofs.arrays.Array.of_texts.Goals as goal

pub invariant_of-result : goal.invariant_of-result
invariant_of-result c = texts_array c.args.validity c.args.texts c.requires.rows c.requires.held
