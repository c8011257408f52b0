use Rattle.std.proofs.Common.{arith}
use Rattle.vx_types.specs.Views.{data_type}
use Rattle.vx_segments.proofs.CodedSegments.{constant_spelled}
use Rattle.vx_segments.proofs.constant_segments.decode_constant.Goals as goal

pub returns-in_ok-column-in-Ok-clause-spelled : goal.returns-in_ok-column-in-Ok-clause-spelled
returns-in_ok-column-in-Ok-clause-spelled c = constant_spelled (data_type c.args.dtype.now) c.args.rows c.args.bytes.now c.in-Ok.one.values c.in_ok-column-in-Ok.column.values (omega (arith, c.if-rows-eq0.false)) c.in-Ok.ensures.spelled c.in_ok-column-in-Ok.ensures.values
