use Rattle.std.proofs.Common.{◌≡◌, [], rules}
use Rattle.vx_expr.proofs.ReportCounts.{no_counters}
use Rattle.vx_expr.proofs.filters.ReportCounts.new.Goals as goal

pub invariant_of-result : goal.invariant_of-result
invariant_of-result c =
    let none : c.new.result.items ≡ [] = search rules in
    rw none (no_counters c.in_ok-counts.counts.items c.in_ok-counts.ensures.each c.in_ok-counts.ensures.none)
