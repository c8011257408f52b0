use Rattle.std.proofs.Common.{◌≡◌, ◌++◌, ◌-◌, drop}
use Rattle.vx_splits.specs.Spans.{subdivided}
use Rattle.vx_splits.proofs.SpanCuts.{behind_first}
use Rattle.vx_splits.proofs.spans.with_cuts.Given as goal

abbrev pub invariant-loop-place : goal.invariant-loop-place
invariant-loop-place l = l.cuts.items ++ behind_first l.max_span (drop (l.place - 1) l.boundaries) ≡ subdivided l.max_span l.boundaries
