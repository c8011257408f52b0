use Rattle.std.proofs.Common.{arith, ◌≡◌, ◌<◌}
use Rattle.vx_plan.specs.Rules.{node_at}
use Rattle.vx_plan.proofs.Collecting.{field_part}
use Rattle.vx_steps.proofs.ChunkRows.{concat_plan_at}
use Rattle.vx_steps.proofs.HinderedRows.{chunk_rows, chunks_done, chunks_more, field_more, field_rows, over_rows, pack_rows, pruned_rows, same_rows, share_rows, take_rows, zoned_rows}
use Rattle.vx_steps.proofs.Shaping.{over_plan, pack_plan_at, pruning_plan_at, same_law, share_plan_at, take_plan_at, zoned_law}
use Rattle.vx_steps.proofs.hindrances.+hindrances.Goals as goal

pub hindrance_of_rows-returns-in-Same : goal.hindrance_of_rows-returns-in-Same
hindrance_of_rows-returns-in-Same t c =
    same_rows c.args.places c.args.table.now c.args.plan c.in-Same.child c.args.start c.args.count c.hindrance_of_rows.result (same_law c.args.table.now c.args.plan c.in-Same.child c.requires.known c.in-Same.ensures.shape) c.hindrance_of_rows.ensures

pub hindrance_of_rows-returns-in-Over : goal.hindrance_of_rows-returns-in-Over
hindrance_of_rows-returns-in-Over t c =
    over_rows c.args.places c.args.table.now c.args.plan c.in-Over.child c.args.start c.args.count c.hindrance_of_rows-in-Over.result (over_plan c.args.table.now c.in-Over.ensures.good c.args.plan c.in-Over.child c.requires.known c.in-Over.ensures.shape) c.hindrance_of_rows-in-Over.ensures

pub hindrance_of_rows-returns-in-Zoned : goal.hindrance_of_rows-returns-in-Zoned
hindrance_of_rows-returns-in-Zoned t c =
    zoned_rows c.args.places c.args.table.now c.args.plan c.in-Zoned.content c.in-Zoned.field-1 c.args.start c.args.count c.hindrance_of_rows-in-Zoned.result (zoned_law c.args.table.now c.args.plan c.in-Zoned.content c.in-Zoned.field-1 c.requires.known c.in-Zoned.ensures.shape) c.hindrance_of_rows-in-Zoned.ensures

pub hindrance_of_rows-returns-in_default : goal.hindrance_of_rows-returns-in_default
hindrance_of_rows-returns-in_default t c =
    let some : 0 < c.args.count = grind arith in
    take_rows c.args.places c.args.table.now c.args.plan c.in-LookUp.codes c.in-LookUp.values c.args.start c.args.count c.row_count-rows.result (take_plan_at c.args.table.now c.in-LookUp.ensures.good c.args.plan c.in-LookUp.codes c.in-LookUp.values c.requires.known c.in-LookUp.ensures.shape) some c.row_count-rows.ensures
    c.hindrance_of_rows-in_default.result c.in_default.ensures c.hindrance_of_rows-in_default.ensures

pub hindrance_of_rows-returns-in-Shared : goal.hindrance_of_rows-returns-in-Shared
hindrance_of_rows-returns-in-Shared t c =
    let some : 0 < c.args.count = grind arith in
    share_rows c.args.places c.args.table.now c.args.plan c.in-Shared.child c.args.start c.args.count c.row_count-rows-in-Shared.result c.hindrance_of_rows-in-Shared.result (share_plan_at c.args.table.now c.in-Shared.ensures.good c.args.plan c.in-Shared.child c.requires.known c.in-Shared.ensures.shape) some c.row_count-rows-in-Shared.ensures c.hindrance_of_rows-in-Shared.ensures

pub hindrance_of_rows-returns-in-Pruned : goal.hindrance_of_rows-returns-in-Pruned
hindrance_of_rows-returns-in-Pruned t c =
    let some : 0 < c.args.count = grind arith in
    pruned_rows c.args.places c.args.table.now c.args.plan c.in-Pruned.zones c.args.start c.args.count c.row_count-rows-in-Pruned.result c.hindrance_of_rows-in-Pruned.result (pruning_plan_at c.args.table.now c.in-Pruned.ensures.good c.args.plan c.in-Pruned.zones c.requires.known c.in-Pruned.ensures.shape) some c.row_count-rows-in-Pruned.ensures c.hindrance_of_rows-in-Pruned.ensures

pub hindrance_of_fields-hindrance_of_rows-requires : goal.hindrance_of_fields-hindrance_of_rows-requires
hindrance_of_fields-hindrance_of_rows-requires t c =
    let part = field_part c.args.table.now c.requires.good c.args.plan c.loop-place.place c.child_required-child.result.0 c.requires.known c.child_required-child.ensures.at c.child_required-child.ensures.lower in
    let lt : c.child_required-child.result.0 < c.args.plan = part.lower in
    let rows : (node_at c.args.table.now c.args.plan).rows ≡ (node_at c.args.table.now c.child_required-child.result.0).rows = part.rows in
    (omega arith, (part.known, omega arith))

pub hindrance_of_fields-returns-in-Some : goal.hindrance_of_fields-returns-in-Some
hindrance_of_fields-returns-in-Some t c =
    field_rows c.args.places c.args.table.now c.args.plan c.loop-place.place c.child_required-child.result.0 c.args.start c.args.count c.in-Some.found (pack_plan_at c.args.table.now c.requires.good c.args.plan c.requires.known) c.child_required-child.ensures.at c.in-Some.ensures

pub hindrance_of_fields-loop-place-preserved : goal.hindrance_of_fields-loop-place-preserved
hindrance_of_fields-loop-place-preserved t c =
    field_more c.args.places c.args.table.now (node_at c.args.table.now c.args.plan).children c.loop-place.place c.child_required-child.result.0 c.args.start c.args.count c.child_required-child.ensures.at c.loop-place.invariant c.in_default.ensures

pub hindrance_of_fields-returns : goal.hindrance_of_fields-returns
hindrance_of_fields-returns t c = pack_rows c.args.places c.args.table.now c.args.plan c.loop-place.place c.args.start c.args.count (pack_plan_at c.args.table.now c.requires.good c.args.plan c.requires.known) (omega arith) c.loop-place.invariant

pub hindrance_of_chunks-returns-in-Some : goal.hindrance_of_chunks-returns-in-Some
hindrance_of_chunks-returns-in-Some t c =
    let inside = c.loop-done.invariant.inside in
    chunk_rows c.args.places c.args.table.now c.requires.good c.args.plan c.args.start c.loop-done.done c.min-here.result c.chunk_at-chunk.result c.chunk_at-chunk.ensures (concat_plan_at c.args.table.now c.args.plan c.requires.known c.requires.concat) (omega arith) c.args.count c.in-Some.found (omega arith) c.in-Some.ensures

pub hindrance_of_chunks-loop-done-preserved : goal.hindrance_of_chunks-loop-done-preserved
hindrance_of_chunks-loop-done-preserved t c = record {
  inside = omega arith;
  none = chunks_more c.args.places c.args.table.now c.requires.good c.args.plan c.args.start c.loop-done.done c.min-here.result c.chunk_at-chunk.result c.chunk_at-chunk.ensures (concat_plan_at c.args.table.now c.args.plan c.requires.known c.requires.concat) (omega arith) c.loop-done.invariant.none c.in_default.ensures;
}

pub hindrance_of_chunks-returns : goal.hindrance_of_chunks-returns
hindrance_of_chunks-returns t c = chunks_done c.args.places c.args.table.now c.args.plan c.args.start c.loop-done.done c.args.count (omega arith) c.loop-done.invariant.none
