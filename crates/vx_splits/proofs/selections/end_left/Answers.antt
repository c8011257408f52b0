use Rattle.std.proofs.Common.{arith}
use Rattle.vx_splits.proofs.Runs.{as_many_below}
use Rattle.vx_splits.proofs.selections.end_left.Goals as goal

pub overflow_sub-result-2 : goal.overflow_sub-result-2
overflow_sub-result-2 c = let many = as_many_below c.args.excluded.now c.args.end c.requires.ascending c.requires.below in omega arith
