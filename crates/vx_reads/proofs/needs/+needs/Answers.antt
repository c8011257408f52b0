use Rattle.std.proofs.lemmas.Grind.{common_steps}
use Rattle.std.proofs.Common.{◌≡◌, ℕ, ◌-◌, ◌<◌, length, get_or, ap, ◌∙◌, arith}
use Rattle.vx_layout.specs.Trees.{subtree}
use Rattle.vx_reads.specs.Readable.{tree_head, trees_of}
use Rattle.vx_reads.proofs.Begun.{begins_longer, begins_through, held_on, held_through}
use Rattle.vx_reads.proofs.ByKind.{chunk_there}
use Rattle.vx_reads.proofs.Chunking.{needs_more}
use Rattle.vx_reads.proofs.FieldTrees.{struct_added}
use Rattle.vx_reads.proofs.Ranges.{IsHere}
use Rattle.vx_reads.proofs.needs.+needs.Goals as goal

pub add_chunk_needs-loop-chunk-preserved : goal.add_chunk_needs-loop-chunk-preserved
add_chunk_needs-loop-chunk-preserved g c =
    let nodes = c.args.tree.now in
    let chunk = get_or c.args.chunks.now c.loop-chunk.chunk-index 0 in
    let lt : c.loop-chunk.chunk-index < length c.args.chunks.now = c.loop-chunk-test.true in
    let at = chunk_there c.args.chunks.now c.loop-chunk.chunk-index lt in
    let rows : c.rows_at-rows.result ≡ (tree_head c.args.tree.now (get_or c.args.chunks.now c.loop-chunk.chunk-index 0)).rows = c.rows_at-rows.ensures in
    let done_is : c.rows_here-here.result.start ≡ c.loop-chunk.done = c.rows_here-here.ensures.start in
    let here : IsHere c.args.mask.now c.loop-chunk.done c.rows_here-here.result.end ((tree_head c.args.tree.now (get_or c.args.chunks.now c.loop-chunk.chunk-index 0)).rows - c.loop-chunk.row) = record {
      forwards = (let h = c.rows_here-here.ensures.forwards in omega arith);
      inside = (let h = c.rows_here-here.ensures.inside in let e = c.len.ensures in omega arith);
      most = (let h = c.rows_here-here.ensures.end in omega arith);
      whole = λ less. (let e = c.len.ensures in let h = c.rows_here-here.ensures.whole (omega arith) in omega arith);
    } in
    let row_is : c.saturating_sub-row.result ≡ c.loop-chunk.row - (tree_head c.args.tree.now (get_or c.args.chunks.now c.loop-chunk.chunk-index 0)).rows = c.saturating_sub-row.ensures ∙ ap (λ (k : ℕ). c.loop-chunk.row - k) rows in
    record {
      inside = here.inside;
      needs = rw row_is (needs_more nodes c.args.chunks.now c.loop-chunk.chunk-index chunk c.loop-chunk.row c.args.mask.now c.loop-chunk.done c.rows_here-here.result.end c.loop-chunk.needs.items _ _ at here c.loop-chunk.invariant.needs (rw done_is at c.in_ok-add_range_needs.ensures.added));
      held = begins_through c.args.needs.now.items c.loop-chunk.needs.items _ c.loop-chunk.invariant.held (begins_longer c.loop-chunk.needs.items _ _ c.in_ok-add_range_needs.ensures.added);
    }

pub add_node_needs-returns-in-Struct-clause-added : goal.add_node_needs-returns-in-Struct-clause-added
add_node_needs-returns-in-Struct-clause-added g c =
    struct_added c.add_field_needs.result (subtree c.args.tree.now c.args.node) (tree_head c.args.tree.now c.args.node) (trees_of c.args.tree.now c.in-Struct.fields.now) c.args.start c.args.mask.now c.args.needs.now.items _ c.in-Struct.ensures.tree c.in-Struct.ensures.sound c.add_field_needs.ensures.added

pub add_dict_needs-returns-clause-held : goal.add_dict_needs-returns-clause-held
add_dict_needs-returns-clause-held g c =
    held_through c.add_node_needs-2.result c.args.needs.now.items c.add_node_needs.new.needs.items _ (begins_longer c.args.needs.now.items _ _ c.in_ok-add_node_needs.ensures.added) c.add_node_needs-2.ensures.held

pub add_dict_needs-returns-in_err-all-clause-held : goal.add_dict_needs-returns-in_err-all-clause-held
add_dict_needs-returns-in_err-all-clause-held g c = held_on c.from_residual-in_err-all.result c.args.needs.now.items c.add_node_needs.new.needs.items (begins_longer c.args.needs.now.items _ _ c.in_ok-add_node_needs.ensures.added)

pub add_field_needs-loop-field-preserved : goal.add_field_needs-loop-field-preserved
add_field_needs-loop-field-preserved g c = record {
  needs = grind (arith, common_steps);
  held = begins_through c.args.needs.now.items c.loop-field.needs.items _ c.loop-field.invariant.held (begins_longer c.loop-field.needs.items _ _ c.in_ok-add_node_needs.ensures.added);
}
