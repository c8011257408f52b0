use Rattle.std.proofs.Common.{◌≡◌, ◌+◌, ◌-◌, drop}
use Rattle.vx_splits.specs.Spans.{cut_count}
use Rattle.vx_splits.proofs.spans.count_cuts.Given as goal

abbrev pub invariant-loop-place : goal.invariant-loop-place
invariant-loop-place l = l.count + cut_count l.max_span (drop (l.place - 1) l.boundaries) ≡ cut_count l.max_span l.boundaries
