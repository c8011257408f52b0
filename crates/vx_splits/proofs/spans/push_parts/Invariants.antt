use Rattle.std.proofs.Common.{◌≡◌, ◌++◌, ◌+◌, ◌-◌, ◌*◌, map}
use Rattle.std.specs.List.{range_with_len}
use Rattle.vx_splits.proofs.spans.push_parts.Given as goal

abbrev pub invariant-loop-part : goal.invariant-loop-part
invariant-loop-part l = l.cuts.items ≡ l.fn.cuts.items ++ map (λ part. l.start + part * l.step) (range_with_len 1 (l.part - 1))
