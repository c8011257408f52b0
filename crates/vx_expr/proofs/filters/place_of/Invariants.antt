use Rattle.std.proofs.Common.{◌≡◌, ◌+◌, drop, nat_lt}
use Rattle.std.specs.List.{prefix_len}
use Rattle.vx_expr.proofs.filters.place_of.Given as goal

abbrev pub invariant-loop-place : goal.invariant-loop-place
invariant-loop-place l = l.place + prefix_len (λ report. nat_lt report l.permille) (drop l.place l.reports) ≡ prefix_len (λ report. nat_lt report l.permille) l.reports
