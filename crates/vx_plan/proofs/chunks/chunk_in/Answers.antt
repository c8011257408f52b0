use Rattle.std.proofs.Common.{◌≡◌, ◌+◌, ◌<◌, List, ℕ, length, ap, arith}
use Rattle.std.proofs.lemmas.Option.{get_or_from_slice_get}
use Rattle.vx_plan.specs.Nodes.{Node, absent, node_data}
use Rattle.vx_plan.specs.Rules.{node_at}
use Rattle.vx_plan.proofs.Chunking.{all_offsets, chunk_child, concat_node_at, end_fits, is_chunk, place_inside}
use Rattle.vx_plan.proofs.chunks.chunk_in.Goals as goal

pub place_near-place-requires : goal.place_near-place-requires
place_near-place-requires c =
    let over = concat_node_at c.args.table.now c.args.plan (node_data c.args.node.now) c.as_slice-offsets.result.now c.requires.known c.requires.here c.requires.concat c.as_slice-offsets.ensures.value in
    all_offsets c.args.table.now c.args.plan c.as_slice-offsets.result.now over c.args.row c.requires.inside

pub at-child-requires : goal.at-child-requires
at-child-requires c =
    let over = concat_node_at c.args.table.now c.args.plan (node_data c.args.node.now) c.as_slice-offsets.result.now c.requires.known c.requires.here c.requires.concat c.as_slice-offsets.ensures.value in
    let there : node_at c.args.table.now c.args.plan ≡ node_data c.args.node.now = get_or_from_slice_get c.args.table.now c.args.plan (node_data c.args.node.now) absent c.requires.here in
    omega (arith, place_inside c.args.table.now c.args.plan c.as_slice-offsets.result.now over c.args.row c.place_near-place.result c.place_near-place.ensures, ap (λ (m : Node). length m.children) there)

pub row_count-requires : goal.row_count-requires
row_count-requires c =
    let child = chunk_child c.args.table.now c.args.plan (node_data c.args.node.now) c.place_near-place.result c.at-child.result c.requires.known c.requires.here c.requires.concat c.at-child.ensures in
    let lower : c.at-child.result < c.args.plan = child.lower in
    omega (arith, lower, c.requires.known)

pub overflow_add-end : goal.overflow_add-end
overflow_add-end c =
    let over = concat_node_at c.args.table.now c.args.plan (node_data c.args.node.now) c.as_slice-offsets.result.now c.requires.known c.requires.here c.requires.concat c.as_slice-offsets.ensures.value in
    let child = chunk_child c.args.table.now c.args.plan (node_data c.args.node.now) c.place_near-place.result c.at-child.result c.requires.known c.requires.here c.requires.concat c.at-child.ensures in
    omega (arith, c.row_count.ensures, end_fits c.args.table.now c.args.plan c.as_slice-offsets.result.now over c.args.row c.place_near-place.result c.at-child.result c.place_near-place.ensures child)

pub returns : goal.returns
returns c =
    let over = concat_node_at c.args.table.now c.args.plan (node_data c.args.node.now) c.as_slice-offsets.result.now c.requires.known c.requires.here c.requires.concat c.as_slice-offsets.ensures.value in
    let child = chunk_child c.args.table.now c.args.plan (node_data c.args.node.now) c.place_near-place.result c.at-child.result c.requires.known c.requires.here c.requires.concat c.at-child.ensures in
    rw c.row_count.ensures (is_chunk c.args.table.now c.args.plan c.as_slice-offsets.result.now over c.args.row c.place_near-place.result c.at-child.result (c.place_near-place.result + 1) c.requires.inside c.place_near-place.ensures child)
