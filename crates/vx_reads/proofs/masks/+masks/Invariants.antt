use Rattle.std.proofs.Common.{◌≡◌, ℕ, ◌+◌, ◌-◌, ◌*◌, ◌<◌, ◌≤◌, length, take, drop}
use Rattle.vx_layout.specs.Kept.{all}
use Rattle.vx_layout.specs.Rows.{derivation_in, rows_in}
use Rattle.vx_rows.specs.SegmentLeaves.{Bytes}
use Rattle.vx_reads.specs.Came.{Begin}
use Rattle.vx_reads.specs.Filtered.{FaultInChunks}
use Rattle.vx_reads.specs.MaskRows.{AreKeptBy}
use Rattle.vx_reads.specs.Needed.{needed_in}
use Rattle.vx_reads.specs.Readable.{tree_head, trees_of}
use Rattle.vx_reads.proofs.masks.+masks.Given as goal

abbrev pub decreases-mask_of : goal.decreases-mask_of
decreases-mask_of l = 3 * (length l.tree.now - l.node) + 2

abbrev pub decreases-chunks_mask : goal.decreases-chunks_mask
decreases-chunks_mask l = 3 * (length l.tree.now - l.node) + 1

abbrev pub decreases-range_mask : goal.decreases-range_mask
decreases-range_mask l = 3 * (length l.tree.now - l.node) + 3

abbrev pub invariant-chunks_mask-loop-chunk : goal.invariant-chunks_mask-loop-chunk
invariant-chunks_mask-loop-chunk l = record {
  inside : l.done ≤ length l.mask;
  fits : l.row + (length l.mask - l.done) ≤ rows_in (trees_of l.tree (drop l.chunk-index l.chunks));
  alike : (i : ℕ) → i < length l.mask - l.done → derivation_in (trees_of l.tree l.chunks) all (l.start + (l.done + i)) ≡ derivation_in (trees_of l.tree (drop l.chunk-index l.chunks)) all (l.row + i);
  ready : Begin (needed_in (trees_of l.tree (drop l.chunk-index l.chunks)) l.row (drop l.done l.mask)) (drop l.next l.reads);
  passed : l.next + length (needed_in (trees_of l.tree (drop l.chunk-index l.chunks)) l.row (drop l.done l.mask)) ≡ l.fn.next + length (needed_in (trees_of l.tree l.chunks) l.start l.mask);
  rows : length l.kept ≡ l.done;
  kept : AreKeptBy l.reads (derivation_in (trees_of l.tree l.chunks) all) (tree_head l.tree l.node).dtype l.expression.term l.start (take l.done l.mask) l.kept;
  up : (bytes : Bytes) (number : ℕ) → FaultInChunks bytes (tree_head l.tree l.node).dtype l.expression.term (trees_of l.tree (drop l.chunk-index l.chunks)) l.row (l.first + l.done) (drop l.done l.mask) number → FaultInChunks bytes (tree_head l.tree l.node).dtype l.expression.term (trees_of l.tree l.chunks) l.start l.first l.mask number;
}
