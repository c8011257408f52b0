use Rattle.std.proofs.Common.{◌≡◌, ◌≤◌, take, sum}
use Rattle.vx_expr.proofs.filters.ReportCounts.at.Given as goal

abbrev pub invariant-loop-permille : goal.invariant-loop-permille
invariant-loop-permille l = record { counted : l.passed ≡ sum (take l.permille l.self-inside.counts.items); under : l.passed ≤ l.place }
