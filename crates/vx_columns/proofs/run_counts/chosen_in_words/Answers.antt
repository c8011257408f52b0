use Rattle.std.proofs.Common.{arith}
use Rattle.vx_columns.proofs.ChosenRows.{counted_in}
use Rattle.vx_columns.proofs.run_counts.chosen_in_words.Goals as goal

pub overflow_add-result : goal.overflow_add-result
overflow_add-result c =
    let counted = counted_in c.args.words.now c.args.rows c.args.from c.args.to c.requires.fit c.requires.count c.requires.forwards c.requires.inside in
    omega (arith, counted.few, c.count_ones.ensures.rows, c.chosen_before.ensures, c.ranges.to.fits)

pub overflow_sub-result : goal.overflow_sub-result
overflow_sub-result c =
    let counted = counted_in c.args.words.now c.args.rows c.args.from c.args.to c.requires.fit c.requires.count c.requires.forwards c.requires.inside in
    omega (arith, counted.few, counted.count, c.count_ones.ensures.rows, c.chosen_before.ensures, c.chosen_before-2.ensures, c.ranges.to.fits)

pub returns : goal.returns
returns c =
    let counted = counted_in c.args.words.now c.args.rows c.args.from c.args.to c.requires.fit c.requires.count c.requires.forwards c.requires.inside in
    omega (arith, counted.few, counted.count, c.count_ones.ensures.rows, c.chosen_before.ensures, c.chosen_before-2.ensures, c.ranges.to.fits)
