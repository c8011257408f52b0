use Rattle.std.proofs.Common.{◌≡◌, ℕ, ◌+◌, ◌-◌, ◌*◌, ◌<◌, ◌≤◌, length, take, drop}
use Rattle.vx_layout.specs.Kept.{all}
use Rattle.vx_layout.specs.Rows.{derivation_in, rows_in}
use Rattle.vx_reads.specs.Computed.{AddsRows}
use Rattle.vx_reads.specs.Came.{Begin}
use Rattle.vx_reads.specs.Fielded.{AreColumnsBy}
use Rattle.vx_reads.specs.Needed.{needed_in, needed_of_each}
use Rattle.vx_reads.specs.Readable.{tree_head, trees_of}
use Rattle.vx_reads.proofs.columns.+columns.Given as goal

abbrev pub decreases-node_column : goal.decreases-node_column
decreases-node_column l = 6 * (length l.tree.now - l.node) + 3

abbrev pub decreases-chunks_column : goal.decreases-chunks_column
decreases-chunks_column l = 6 * (length l.tree.now - l.node) + 2

abbrev pub decreases-add_chunks : goal.decreases-add_chunks
decreases-add_chunks l = 6 * (length l.tree.now - l.node) + 1

abbrev pub decreases-dict_column : goal.decreases-dict_column
decreases-dict_column l = 6 * (length l.tree.now - l.node) + 2

abbrev pub decreases-dict_parts : goal.decreases-dict_parts
decreases-dict_parts l = 6 * (length l.tree.now - l.node) + 1

abbrev pub decreases-add_range : goal.decreases-add_range
decreases-add_range l = 6 * (length l.tree.now - l.node) + 5

abbrev pub decreases-struct_column : goal.decreases-struct_column
decreases-struct_column l = 6 * (length l.tree.now - l.node) + 2

abbrev pub decreases-field_columns : goal.decreases-field_columns
decreases-field_columns l = 6 * (length l.tree.now - l.node) + 1

abbrev pub decreases-add_parts : goal.decreases-add_parts
decreases-add_parts l = 6 * (length l.tree.now - l.node) + 4

abbrev pub invariant-add_chunks-loop-chunk : goal.invariant-add_chunks-loop-chunk
invariant-add_chunks-loop-chunk l = record {
  inside : l.done ≤ length l.mask;
  fits : l.row + (length l.mask - l.done) ≤ rows_in (trees_of l.tree (drop l.chunk-index l.chunks));
  alike : (i : ℕ) → i < length l.mask - l.done → derivation_in (trees_of l.tree l.chunks) all (l.start + (l.done + i)) ≡ derivation_in (trees_of l.tree (drop l.chunk-index l.chunks)) all (l.row + i);
  ready : Begin (needed_in (trees_of l.tree (drop l.chunk-index l.chunks)) l.row (drop l.done l.mask)) (drop l.next l.reads);
  passed : l.next + length (needed_in (trees_of l.tree (drop l.chunk-index l.chunks)) l.row (drop l.done l.mask)) ≡ l.fn.next + length (needed_in (trees_of l.tree l.chunks) l.start l.mask);
  added : AddsRows l.reads (tree_head l.tree l.node).dtype (derivation_in (trees_of l.tree l.chunks) all) l.start (take l.done l.mask) l.fn.parts.items l.parts.items;
}

abbrev pub invariant-field_columns-loop-field : goal.invariant-field_columns-loop-field
invariant-field_columns-loop-field l = record {
  ready : Begin (needed_of_each (trees_of l.tree (drop l.field-index l.fields)) l.start l.mask) (drop l.next l.reads);
  passed : l.next + length (needed_of_each (trees_of l.tree (drop l.field-index l.fields)) l.start l.mask) ≡ l.fn.next + length (needed_of_each (trees_of l.tree l.fields) l.start l.mask);
  columns : AreColumnsBy l.reads (trees_of l.tree (take l.field-index l.fields)) l.start l.mask l.columns.items;
}
