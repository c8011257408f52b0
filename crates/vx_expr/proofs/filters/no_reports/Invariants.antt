use Rattle.std.proofs.Common.{◌≡◌, [], replicate}
use Rattle.vx_expr.proofs.filters.no_reports.Given as goal

abbrev pub invariant-loop-conjunct : goal.invariant-loop-conjunct
invariant-loop-conjunct l = l.reports.items ≡ replicate l._conjunct []
