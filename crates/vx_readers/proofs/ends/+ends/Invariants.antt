use Rattle.std.proofs.Common.{◌≡◌, ◌+◌, ◌-◌, ◌*◌, ◌++◌, length, drop}
use Rattle.std.specs.List.{filter}
use Rattle.vx_reads.specs.Readable.{trees_of}
use Rattle.vx_readers.specs.ChunkEnds.{ends_in, StandFirst}
use Rattle.vx_split_rules.specs.Splits.{is_inside}
use Rattle.vx_readers.proofs.ends.+ends.Given as goal

abbrev pub decreases-add_ends : goal.decreases-add_ends
decreases-add_ends l = 2 * (length l.tree.now - l.node) + 1

abbrev pub decreases-add_chunk_ends : goal.decreases-add_chunk_ends
decreases-add_chunk_ends l = 2 * (length l.tree.now - l.node)

abbrev pub invariant-add_chunk_ends-loop-chunk : goal.invariant-add_chunk_ends-loop-chunk
invariant-add_chunk_ends-loop-chunk l = record {
  ends : l.splits ++ filter (is_inside l.start l.end) (ends_in (trees_of l.tree (drop l.chunk-index l.chunks)) l.row) ≡ l.fn.splits ++ filter (is_inside l.start l.end) (ends_in (trees_of l.tree l.chunks) l.from);
  behind : StandFirst l.fn.splits l.splits;
}
