use Rattle.std.proofs.Common.{arith, ◌-◌}
use Rattle.vx_splits.proofs.SpanCuts.{cuts_counted}
use Rattle.vx_splits.proofs.spans.count_cuts.Goals as goal

pub returns : goal.returns
returns c = cuts_counted c.args.max_span (c.loop-place.place - 1) c.loop-place.count c.args.boundaries.now (omega arith) c.loop-place.invariant
