use Rattle.std.proofs.Common.{◌≡◌, ◌+◌, ◌-◌, ◌*◌, ◌≤◌, ◌++◌, length, drop}
use Rattle.vx_reads.specs.Readable.{trees_of}
use Rattle.vx_readers.specs.ZonesNeeded.{zones_needed_in}
use Rattle.vx_readers.proofs.zone_needs.+zone_needs.Given as goal

abbrev pub decreases-add_zone_needs : goal.decreases-add_zone_needs
decreases-add_zone_needs l = 3 * (length l.tree.now - l.node) + 2

abbrev pub decreases-add_chunk_zone_needs : goal.decreases-add_chunk_zone_needs
decreases-add_chunk_zone_needs l = 3 * (length l.tree.now - l.node) + 1

abbrev pub decreases-add_range_zone_needs : goal.decreases-add_range_zone_needs
decreases-add_range_zone_needs l = 3 * (length l.tree.now - l.node) + 3

abbrev pub invariant-add_chunk_zone_needs-loop-chunk : goal.invariant-add_chunk_zone_needs-loop-chunk
invariant-add_chunk_zone_needs-loop-chunk l = record {
  inside : l.done ≤ length l.mask;
  needs : l.needs.items ++ zones_needed_in (trees_of l.tree (drop l.chunk-index l.chunks)) l.row (drop l.done l.mask) ≡ l.fn.needs.items ++ zones_needed_in (trees_of l.tree l.chunks) l.start l.mask;
}
