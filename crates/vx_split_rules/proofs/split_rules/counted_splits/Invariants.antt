use Rattle.std.proofs.Common.{◌≡◌, ◌+◌, ◌*◌, map, ℕ}
use Rattle.std.specs.List.{range_with_len}
use Rattle.vx_split_rules.proofs.split_rules.counted_splits.Given as goal

abbrev pub invariant-loop-part : goal.invariant-loop-part
invariant-loop-part l = l.splits.items ≡ map (λ (part : ℕ). l.start + part * l.size) (range_with_len 0 l.part)
