use Rattle.vx_splits.proofs.FirstChunks.{Limiting}
use Rattle.vx_splits.proofs.first_rows.limit_rows.Given as goal

abbrev pub invariant-loop-chunk : goal.invariant-loop-chunk
invariant-loop-chunk l = Limiting l.fn.limit l.fn.chunks.items l.kept.items l.chunk-iterator.rest.items l.left
