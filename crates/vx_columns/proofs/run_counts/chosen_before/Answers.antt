use Rattle.std.proofs.Common.{◌/◌, ◌%◌, ap, bit_and, slice_index_or}
use Rattle.vx_columns.proofs.ChosenRows.{masked_word, none_before}
use Rattle.vx_columns.proofs.run_counts.chosen_before.Goals as goal

pub returns-then-count-eq0 : goal.returns-then-count-eq0
returns-then-count-eq0 c = none_before (c.args.row % 64) (slice_index_or c.args.words.now (c.args.row / 64) 0) c.if-count-eq0.true

pub returns : goal.returns
returns c =
    let word = slice_index_or c.args.words.now (c.args.row / 64) 0 in
    masked_word word (c.args.row % 64) (bit_and word c.low_ones.result) (ap (bit_and word) c.low_ones.ensures)
