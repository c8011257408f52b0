use Rattle.std.proofs.Common.{arith}
use Rattle.vx_splits.proofs.Runs.{leading_inside, leading_among}
use Rattle.vx_splits.proofs.selections.first_left.Goals as goal

pub overflow_add-result : goal.overflow_add-result
overflow_add-result c =
    let inside = leading_inside c.args.excluded.now c.args.start c.args.end c.count_near.result c.requires.forwards c.requires.ascending c.requires.from c.requires.below c.count_near.ensures in
    omega arith

pub returns-clause-inside : goal.returns-clause-inside
returns-clause-inside c = leading_inside c.args.excluded.now c.args.start c.args.end c.count_near.result c.requires.forwards c.requires.ascending c.requires.from c.requires.below c.count_near.ensures

pub returns-clause-before : goal.returns-clause-before
returns-clause-before c = leading_among c.args.excluded.now c.args.start c.count_near.result c.requires.ascending c.requires.from c.count_near.ensures
