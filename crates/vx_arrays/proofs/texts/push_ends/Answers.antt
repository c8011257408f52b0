use Rattle.std.proofs.Common.{arith}
use Rattle.vx_arrays.proofs.MovedTexts.{end_within}
use Rattle.vx_arrays.proofs.texts.push_ends.Goals as goal

pub overflow_sub-end : goal.overflow_sub-end
overflow_sub-end c = (end_within c.args.from c.args.to c.args.more.now c.loop-end.end-index 0 c.requires.lie c.loop-end-test.true).0

pub overflow_add-base : goal.overflow_add-base
overflow_add-base c =
    let within = end_within c.args.from c.args.to c.args.more.now c.loop-end.end-index 0 c.requires.lie c.loop-end-test.true in
    omega (arith, within.0, within.1, c.requires.fits)
