use Rattle.vx_expr.proofs.ReportCounts.{counters_length}
use Rattle.vx_expr.proofs.filters.ReportCounts.len.Goals as goal

pub returns : goal.returns
returns c = rw (← c.self.view_is) (counters_length c.self.inside.counts.items c.self.inside.above.items c.self.inside.total c.self.invariant)
