use Rattle.std.proofs.Common.{ℕ, ◌<◌}
use Rattle.vx_reads.specs.Readable.{IsReadableAt}
use Rattle.vx_readers.proofs.readers.check.Given as goal

abbrev pub invariant-loop-node : goal.invariant-loop-node
invariant-loop-node l = (n : ℕ) → n < l.node → IsReadableAt l.tree n
