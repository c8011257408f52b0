use Rattle.std.proofs.Common.{ℕ, ◌<◌}
use Rattle.vx_layout.proofs.CountedFlats.{CountedAt}
use Rattle.vx_layout.proofs.flat_kinds.has_counted_rows.Given as goal

abbrev pub invariant-loop-number : goal.invariant-loop-number
invariant-loop-number l = (n : ℕ) → n < l.number → CountedAt l.tree n
