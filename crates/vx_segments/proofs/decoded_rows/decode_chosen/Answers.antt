use Rattle.std.proofs.Common.{◌-◌, arith}
use Rattle.vx_types.specs.Views.{data_type}
use Rattle.vx_segments.proofs.ChosenRows.{chosen_read, chosen_spelled, rows_count}
use Rattle.vx_segments.proofs.CodedRows.{coded_count}
use Rattle.vx_segments.proofs.decoded_rows.decode_chosen.Goals as goal

pub filtered-requires-clause-masked : goal.filtered-requires-clause-masked
filtered-requires-clause-masked c =
    let inside = c.chosen_between-front.ensures.inside in
    rows_count c.args.coding (data_type c.args.dtype.now) c.args.rows c.args.range.start (c.args.range.end - c.args.range.start) c.chosen_between-front.result.0 c.chosen_between-front.result.1 c.args.bytes.now c.in-Ok.column.values c.chosen_between-front.ensures.forwards (omega (arith, inside, c.requires.masked)) (omega (arith, c.requires.forwards, c.requires.inside)) c.in-Ok.ensures.spelled

pub returns-in_ok-some-in-Ok-clause-spelled : goal.returns-in_ok-some-in-Ok-clause-spelled
returns-in_ok-some-in-Ok-clause-spelled c =
    chosen_spelled c.args.coding (data_type c.args.dtype.now) c.args.rows c.args.range.start c.args.range.end c.chosen_between-front.result.0 c.chosen_between-front.result.1 c.args.bytes.now c.args.mask.now c.in-Ok.column.values c.in_ok-some-in-Ok.some.values c.requires.forwards c.requires.inside c.requires.masked
    c.chosen_between-front.ensures.forwards c.chosen_between-front.ensures.inside c.chosen_between-front.ensures.front c.chosen_between-front.ensures.back c.in-Ok.ensures.spelled (coded_count c.args.coding (data_type c.args.dtype.now) c.args.rows c.args.bytes.now c.in-Ok.ensures.spelled.all c.in-Ok.ensures.spelled.spelled) c.in_ok-some-in-Ok.ensures.values

pub returns-in_ok-some-in-Ok-clause-read : goal.returns-in_ok-some-in-Ok-clause-read
returns-in_ok-some-in-Ok-clause-read c = chosen_read c.args.coding (data_type c.args.dtype.now) c.args.rows c.args.range.start c.args.range.end c.args.bytes.now c.args.mask.now c.in_ok-some-in-Ok.some.values c.requires.leaf (returns-in_ok-some-in-Ok-clause-spelled c)
