use Rattle.std.proofs.Common.{arith}
use Rattle.vx_segments.proofs.CodedRows.{filled_none, filled_some}
use Rattle.vx_segments.proofs.constant_segments.fill_some.Goals as goal

pub returns-then-rows-eq0-clause-values : goal.returns-then-rows-eq0-clause-values
returns-then-rows-eq0-clause-values c = λ value is. filled_none c.args.rows c.args.one.values c.in_ok-none.none.values value (omega (arith, c.if-rows-eq0.true)) c.in_ok-none.ensures.values

pub returns-clause-values : goal.returns-clause-values
returns-clause-values c = λ value is. filled_some c.args.rows c.args.one.values c.in_ok-column.column.values value c.in_ok-column.ensures.values is
