use Rattle.std.proofs.Common.{◌≡◌, ◌-◌, map}
use Rattle.std.specs.List.{range_with_len}
use Rattle.vx_splits.specs.Chunks.{clipped_chunk}
use Rattle.vx_splits.proofs.chunks.row_chunks.Given as goal

abbrev pub invariant-loop-number : goal.invariant-loop-number
invariant-loop-number l = l.chunks.items ≡ map (clipped_chunk l.size l.rows.start l.rows.end) (range_with_len l.first (l.number - l.first))
