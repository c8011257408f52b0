use Rattle.std.proofs.Common.{arith}
use Rattle.vx_types.specs.Views.{data_type}
use Rattle.vx_segments.proofs.CodedRows.{plain_range}
use Rattle.vx_segments.proofs.decoded_rows.rows_of_all.Goals as goal

pub slice-requires-clause-inside : goal.slice-requires-clause-inside
slice-requires-clause-inside c = omega (arith, c.requires.inside, c.in-Ok.ensures.spelled.count)

pub returns-in_ok-some-in-Ok-clause-spelled : goal.returns-in_ok-some-in-Ok-clause-spelled
returns-in_ok-some-in-Ok-clause-spelled c = plain_range (data_type c.args.dtype.now) c.args.rows c.args.range.start c.args.range.end c.args.bytes.now c.in-Ok.all.values c.in_ok-some-in-Ok.some.values c.in-Ok.ensures.spelled c.in_ok-some-in-Ok.ensures.values
