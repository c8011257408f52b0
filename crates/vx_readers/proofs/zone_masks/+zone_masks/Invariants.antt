use Rattle.std.proofs.Common.{◌≡◌, ℕ, ◌+◌, ◌-◌, ◌*◌, ◌<◌, ◌≤◌, length, take, drop}
use Rattle.vx_layout.specs.Rows.{rows_in}
use Rattle.vx_reads.specs.Came.{Begin}
use Rattle.vx_reads.specs.Readable.{trees_of}
use Rattle.vx_readers.specs.Unpruned.{AreUnprunedBy}
use Rattle.vx_readers.specs.ZonesNeeded.{zones_needed_in}
use Rattle.vx_readers.specs.ZonesOver.{zones_over_in}
use Rattle.vx_readers.proofs.zone_masks.+zone_masks.Given as goal

abbrev pub decreases-unpruned_of : goal.decreases-unpruned_of
decreases-unpruned_of l = 3 * (length l.tree.now - l.node) + 2

abbrev pub decreases-unpruned_of_zoned : goal.decreases-unpruned_of_zoned
decreases-unpruned_of_zoned l = 3 * (length l.tree.now - l.node) + 1

abbrev pub decreases-unpruned_of_chunks : goal.decreases-unpruned_of_chunks
decreases-unpruned_of_chunks l = 3 * (length l.tree.now - l.node) + 1

abbrev pub decreases-unpruned_of_range : goal.decreases-unpruned_of_range
decreases-unpruned_of_range l = 3 * (length l.tree.now - l.node) + 3

abbrev pub invariant-unpruned_of_chunks-loop-chunk : goal.invariant-unpruned_of_chunks-loop-chunk
invariant-unpruned_of_chunks-loop-chunk l = record {
  inside : l.done ≤ length l.mask;
  fits : l.row + (length l.mask - l.done) ≤ rows_in (trees_of l.tree (drop l.chunk-index l.chunks));
  alike : (i : ℕ) → i < length l.mask - l.done → zones_over_in (trees_of l.tree l.chunks) (l.start + (l.done + i)) ≡ zones_over_in (trees_of l.tree (drop l.chunk-index l.chunks)) (l.row + i);
  ready : Begin (zones_needed_in (trees_of l.tree (drop l.chunk-index l.chunks)) l.row (drop l.done l.mask)) (drop l.next l.reads);
  passed : l.next + length (zones_needed_in (trees_of l.tree (drop l.chunk-index l.chunks)) l.row (drop l.done l.mask)) ≡ l.fn.next + length (zones_needed_in (trees_of l.tree l.chunks) l.start l.mask);
  rows : length l.kept ≡ l.done;
  kept : AreUnprunedBy l.reads (zones_over_in (trees_of l.tree l.chunks)) l.proof.term l.start (take l.done l.mask) l.kept;
}
