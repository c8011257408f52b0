use Rattle.std.proofs.Common.{◌≡◌, drop}
use Rattle.vx_expr.specs.Filters.{are_reported}
use Rattle.vx_expr.proofs.filters.are_reported.Given as goal

abbrev pub invariant-loop-one : goal.invariant-loop-one
invariant-loop-one l = are_reported (drop l.one-index l.reports) ≡ are_reported l.reports
