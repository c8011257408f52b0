use Rattle.std.proofs.Common.{◌≡◌, ◌+◌, ◌-◌, ◌*◌, ◌≤◌, ◌++◌, length, drop}
use Rattle.vx_reads.specs.Needed.{needed_in, needed_of_each, BeginsWith}
use Rattle.vx_reads.specs.Readable.{trees_of}
use Rattle.vx_reads.proofs.needs.+needs.Given as goal

abbrev pub decreases-add_node_needs : goal.decreases-add_node_needs
decreases-add_node_needs l = 3 * (length l.tree.now - l.node) + 2

abbrev pub decreases-add_dict_needs : goal.decreases-add_dict_needs
decreases-add_dict_needs l = 3 * (length l.tree.now - l.node) + 1

abbrev pub decreases-add_chunk_needs : goal.decreases-add_chunk_needs
decreases-add_chunk_needs l = 3 * (length l.tree.now - l.node) + 1

abbrev pub decreases-add_range_needs : goal.decreases-add_range_needs
decreases-add_range_needs l = 3 * (length l.tree.now - l.node) + 3

abbrev pub invariant-add_chunk_needs-loop-chunk : goal.invariant-add_chunk_needs-loop-chunk
invariant-add_chunk_needs-loop-chunk l = record {
  inside : l.done ≤ length l.mask;
  needs : l.needs.items ++ needed_in (trees_of l.tree (drop l.chunk-index l.chunks)) l.row (drop l.done l.mask) ≡ l.fn.needs.items ++ needed_in (trees_of l.tree l.chunks) l.start l.mask;
  held : BeginsWith l.fn.needs.items l.needs.items;
}

abbrev pub decreases-add_field_needs : goal.decreases-add_field_needs
decreases-add_field_needs l = 3 * (length l.tree.now - l.node) + 1

abbrev pub invariant-add_field_needs-loop-field : goal.invariant-add_field_needs-loop-field
invariant-add_field_needs-loop-field l = record {
  needs : l.needs.items ++ needed_of_each (trees_of l.tree (drop l.field-index l.fields)) l.start l.mask ≡ l.fn.needs.items ++ needed_of_each (trees_of l.tree l.fields) l.start l.mask;
  held : BeginsWith l.fn.needs.items l.needs.items;
}
