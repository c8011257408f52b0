use Rattle.std.proofs.Common.{arith, ◌≡◌, ◌+◌, ◌<◌, ◌≤◌, ℕ, List, [], ◌∷◌, ◌++◌, Bool, Some, None, Result, Ok, Err, true, replicate, length, map, refl, sym, ap, ◌∙◌, subst}
use Rattle.std.proofs.lemmas.Result.{IfOk-weaker, err_from_is_err_and}
use Rattle.vx_base.specs.Columns.{ColumnData}
use Rattle.vx_base.specs.Masks.{true_count}
use Rattle.std.proofs.lemmas.List.{take_all, length-replicate}
use Rattle.std.proofs.lemmas.List.Concat.{length-flat_map}
use Rattle.std.proofs.lemmas.List.Sums.{sum_by_push}
use Rattle.std.specs.Prelude.{slice_range, IfOk}
use Rattle.vx_base.specs.declared.dtypes.Nullability.TheVariants.{NonNullable}
use Rattle.vx_base.specs.Data.{DataType, bool_type}
use Rattle.vx_picking.proofs.MaskRanges.{all_pushed, count_more, length_between}
use Rattle.vx_picking.proofs.SelectedRows.{count_none, picked_count}
use Rattle.vx_plan.specs.Plans.{plan_at, plan_head}
use Rattle.vx_base.specs.ColumnCalls.{nullable_where, IsFitting, IsUnsigned}
use Rattle.vx_base.specs.Fits.{nullability_of}
use Rattle.vx_plan.proofs.Adding.{head_in_table}
use Rattle.vx_plan.proofs.Collecting.{field_part}
use Rattle.vx_steps.specs.declared.errors.StepError.{StepError}
use Rattle.vx_steps.proofs.Fields.{field_failed, parts_more, parts_typed, structs_computed, structs_count}
use Rattle.vx_plan.specs.Kinds.{has_validity_of}
use Rattle.vx_steps.specs.Structs.{structs_at}
use Rattle.vx_steps.proofs.Selecting.{past_true}
use Rattle.vx_steps.specs.Computed.{whole_in, AreChunkParts, AreReady, Computes, ComputesWhole}
use Rattle.vx_plan.specs.Reaches.{all_rows}
use Rattle.vx_plan.specs.Rules.{node_at}
use Rattle.vx_steps.specs.Held.{alone, held}
use Rattle.vx_steps.proofs.ChunkRows.{chunk_dtype, concat_plan_at}
use Rattle.vx_steps.proofs.ComputedChunks.{chunk_failed, chunk_values}
use Rattle.vx_steps.proofs.ComputedRows.{codes_failed, empty_computed, eval_computed, eval_failed, leaf_computed, same_computed, share_computed, share_made, share_there, shared_failed, take_computed, values_failed, whole_computed, whole_made, whole_memory, whole_there, whole_typed, zoned_computed}
use Rattle.vx_steps.proofs.PrunedRows.{all_counted, pruned_failed, pruned_result, pruning_kind, ready_zones, told_of_zones}
use Rattle.vx_steps.proofs.Readying.{nothing_given, ready_chunk, ready_field, ready_same, ready_shared, ready_values, ready_whole, ready_zoned}
use Rattle.vx_steps.proofs.Shaping.{eval_at, leaf_plan, over_plan, pack_plan_at, pruning_plan_at, same_law, same_plan, share_plan_at, take_plan_at, zoned_law, zoned_like_plan}
use Rattle.vx_steps.proofs.computing.+computing.Goals as goal

looked_dtype : (codes values out c v : DataType) → out ≡ nullable_where (nullability_of c) v → c ≡ codes → v ≡ values → out ≡ nullable_where (nullability_of codes) values
looked_dtype codes values out c v is first second = is ∙ ap (λ (t : DataType). nullable_where (nullability_of t) v) first ∙ ap (nullable_where (nullability_of codes)) second

pub column_of-returns-then-selects_none-clause-rows : goal.column_of-returns-then-selects_none-clause-rows
column_of-returns-then-selects_none-clause-rows g c =
    IfOk-weaker c.no_rows.result (λ column. column.values ≡ []) (λ column. length column.values ≡ true_count c.args.mask.now) (λ column empty. ap length empty ∙ sym (count_none c.args.mask.now c.if-selects_none.ensures)) c.no_rows.ensures.none

pub column_of-returns-then-selects_none-clause-computed : goal.column_of-returns-then-selects_none-clause-computed
column_of-returns-then-selects_none-clause-computed g c = empty_computed (held c.args.from) c.args.plan c.args.start c.args.mask.now c.no_rows.result c.if-selects_none.ensures c.no_rows.ensures.none c.no_rows.ensures.memory

pub column_of-column_of-requires : goal.column_of-column_of-requires
column_of-column_of-requires g c =
    let like = same_plan c.args.from.table.now c.args.plan c.in-Same.child c.requires.known c.in-Same.ensures.shape in
    let lt : c.in-Same.child < c.args.plan = like.lower in
    let rows : (node_at c.args.from.table.now c.args.plan).rows ≡ (node_at c.args.from.table.now c.in-Same.child).rows = like.rows in
    (omega arith, (like.known, (omega arith, (c.requires.held, ready_same (held c.args.from) c.args.plan c.in-Same.child c.args.start c.args.mask.now (same_law c.args.from.table.now c.args.plan c.in-Same.child c.requires.known c.in-Same.ensures.shape) c.requires.ready))))

pub column_of-column_of-requires-in-Zoned : goal.column_of-column_of-requires-in-Zoned
column_of-column_of-requires-in-Zoned g c =
    let like = zoned_like_plan c.args.from.table.now c.args.plan c.in-Zoned.content c.in-Zoned.field-1 c.requires.known c.in-Zoned.ensures.shape in
    let lt : c.in-Zoned.content < c.args.plan = like.lower in
    let rows : (node_at c.args.from.table.now c.args.plan).rows ≡ (node_at c.args.from.table.now c.in-Zoned.content).rows = like.rows in
    (omega arith, (like.known, (omega arith, (c.requires.held, ready_zoned (held c.args.from) c.args.plan c.in-Zoned.content c.in-Zoned.field-1 c.args.start c.args.mask.now (zoned_law c.args.from.table.now c.args.plan c.in-Zoned.content c.in-Zoned.field-1 c.requires.known c.in-Zoned.ensures.shape) c.requires.ready))))

pub column_of-returns-in-Same-clause-dtype : goal.column_of-returns-in-Same-clause-dtype
column_of-returns-in-Same-clause-dtype g c =
    let like = same_plan c.args.from.table.now c.args.plan c.in-Same.child c.requires.known c.in-Same.ensures.shape in
    IfOk-weaker c.column_of.result (λ column. column.dtype ≡ (node_at c.args.from.table.now c.in-Same.child).dtype) (λ column. column.dtype ≡ (node_at c.args.from.table.now c.args.plan).dtype) (λ column h. h ∙ sym like.dtype) c.column_of.ensures.dtype

pub column_of-returns-in-Same-clause-computed : goal.column_of-returns-in-Same-clause-computed
column_of-returns-in-Same-clause-computed g c = same_computed (held c.args.from) c.args.plan c.in-Same.child c.args.start c.args.mask.now c.column_of.result (same_law c.args.from.table.now c.args.plan c.in-Same.child c.requires.known c.in-Same.ensures.shape) c.column_of.ensures.computed

pub column_of-returns-in-Zoned-clause-dtype : goal.column_of-returns-in-Zoned-clause-dtype
column_of-returns-in-Zoned-clause-dtype g c =
    let like = zoned_like_plan c.args.from.table.now c.args.plan c.in-Zoned.content c.in-Zoned.field-1 c.requires.known c.in-Zoned.ensures.shape in
    IfOk-weaker c.column_of-in-Zoned.result (λ column. column.dtype ≡ (node_at c.args.from.table.now c.in-Zoned.content).dtype) (λ column. column.dtype ≡ (node_at c.args.from.table.now c.args.plan).dtype) (λ column h. h ∙ sym like.dtype) c.column_of-in-Zoned.ensures.dtype

pub column_of-returns-in-Zoned-clause-computed : goal.column_of-returns-in-Zoned-clause-computed
column_of-returns-in-Zoned-clause-computed g c = zoned_computed (held c.args.from) c.args.plan c.in-Zoned.content c.in-Zoned.field-1 c.args.start c.args.mask.now c.column_of-in-Zoned.result (zoned_law c.args.from.table.now c.args.plan c.in-Zoned.content c.in-Zoned.field-1 c.requires.known c.in-Zoned.ensures.shape) c.column_of-in-Zoned.ensures.computed

pub column_of-leaf_of-requires-clause-leaf : goal.column_of-leaf_of-requires-clause-leaf
column_of-leaf_of-requires-clause-leaf g c = (c.in-Leaf.field-0, c.in-Leaf.ensures.shape)

-- ---- chunks

pub chunk_parts-range_of-requires : goal.chunk_parts-range_of-requires
chunk_parts-range_of-requires g c =
    let is = c.chunk_at-chunk.ensures in
    let low : c.chunk_at-chunk.result.start ≤ c.args.start + c.loop-done.done = is.at_most in
    let end : c.chunk_at-chunk.result.end ≡ c.chunk_at-chunk.result.start + (node_at c.args.from.table.now c.chunk_at-chunk.result.child).rows = is.end in
    let below : c.chunk_at-chunk.result.child < c.args.plan = is.below in
    let over = concat_plan_at c.args.from.table.now c.args.plan c.requires.known c.requires.concat in
    (omega arith, (omega arith, (c.all_true-selects_all.ensures.0, (omega arith, (omega arith, (omega arith, (c.requires.held, ready_chunk (held c.args.from) c.requires.good c.args.plan c.args.start c.loop-done.done c.min-here.result c.args.mask.now c.chunk_at-chunk.result is over (omega arith) c.requires.ready)))))))

pub chunk_parts-returns-in-Err-clause-fault : goal.chunk_parts-returns-in-Err-clause-fault
chunk_parts-returns-in-Err-clause-fault g c =
    chunk_failed (held c.args.from) c.requires.good c.args.plan c.args.start c.loop-done.done c.min-here.result c.args.mask.now c.chunk_at-chunk.result c.in-Err.error c.chunk_at-chunk.ensures (concat_plan_at c.args.from.table.now c.args.plan c.requires.known c.requires.concat) (omega arith) c.in-Err.ensures.computed

pub chunk_parts-loop-done-preserved : goal.chunk_parts-loop-done-preserved
chunk_parts-loop-done-preserved g c =
    let over = concat_plan_at c.args.from.table.now c.args.plan c.requires.known c.requires.concat in
    let pushed : c.push.new.self.items ≡ c.loop-done.parts.items ++ c.in-Ok.part ∷ [] = c.in_ok-push.ensures.items in
    let type_is : (node_at c.args.from.table.now c.chunk_at-chunk.result.child).dtype ≡ (node_at c.args.from.table.now c.args.plan).dtype = chunk_dtype c.args.from.table.now c.requires.good c.args.plan (c.args.start + c.loop-done.done) c.chunk_at-chunk.result c.requires.known c.requires.concat c.chunk_at-chunk.ensures in
    let count : length c.in-Ok.part.values ≡ true_count (slice_range c.args.mask.now c.loop-done.done (c.loop-done.done + c.min-here.result)) = c.in-Ok.ensures.rows in
    let so_far = c.loop-done.invariant.parts in
    record {
      inside = omega arith;
      parts = record {
        dtypes = rw pushed (all_pushed (λ part. part.dtype ≡ (node_at c.args.from.table.now c.args.plan).dtype) c.loop-done.parts.items c.in-Ok.part so_far.dtypes (c.in-Ok.ensures.dtype ∙ type_is));
        rows = rw pushed (omega (arith, sum_by_push (λ (part : ColumnData). length part.values) c.loop-done.parts.items c.in-Ok.part, so_far.rows, count, count_more c.args.mask.now c.loop-done.done c.min-here.result));
        values = λ leaves are. rw pushed (chunk_values (held c.args.from) leaves c.requires.good c.args.plan c.args.start c.loop-done.done c.min-here.result c.args.mask.now c.chunk_at-chunk.result c.loop-done.parts.items c.in-Ok.part c.chunk_at-chunk.ensures over (omega arith) c.loop-done.invariant.inside (so_far.values leaves are) (c.in-Ok.ensures.computed leaves are));
      };
    }

pub chunk_parts-returns-clause-parts : goal.chunk_parts-returns-clause-parts
chunk_parts-returns-clause-parts g c =
    let P : List Bool → Type 0 = λ bits. AreChunkParts (held c.args.from) c.args.plan c.args.start bits c.loop-done.parts.items in
    subst P (take_all c.loop-done.done c.args.mask.now (omega arith)) c.loop-done.invariant.parts

pub chunks_of-returns-in_ok-joined-in-Ok-clause-rows : goal.chunks_of-returns-in_ok-joined-in-Ok-clause-rows
chunks_of-returns-in_ok-joined-in-Ok-clause-rows g c = ap length c.in_ok-joined-in-Ok.ensures.values ∙ length-flat_map (λ (part : ColumnData). part.values) c.in-Ok.parts.items ∙ c.in-Ok.ensures.parts.rows

pub chunks_of-returns-in_ok-joined-in-Ok-clause-computed : goal.chunks_of-returns-in_ok-joined-in-Ok-clause-computed
chunks_of-returns-in_ok-joined-in-Ok-clause-computed g c = λ leaves are. c.in-Ok.ensures.parts.values leaves are ∙ ap (map Some) (sym c.in_ok-joined-in-Ok.ensures.values)

pub range_of-range_of-requires : goal.range_of-range_of-requires
range_of-range_of-requires g c =
    let like = same_plan c.args.from.table.now c.args.plan c.in-Same.child c.requires.known c.in-Same.ensures.shape in
    let lt : c.in-Same.child < c.args.plan = like.lower in
    let rows : (node_at c.args.from.table.now c.args.plan).rows ≡ (node_at c.args.from.table.now c.in-Same.child).rows = like.rows in
    (omega arith, (like.known, (c.requires.all, (c.requires.forwards, (c.requires.masked, (omega arith, (c.requires.held, ready_same (held c.args.from) c.args.plan c.in-Same.child c.args.start (slice_range c.args.mask.now c.args.range.start c.args.range.end) (same_law c.args.from.table.now c.args.plan c.in-Same.child c.requires.known c.in-Same.ensures.shape) c.requires.ready)))))))

pub range_of-returns-in-Same-clause-dtype : goal.range_of-returns-in-Same-clause-dtype
range_of-returns-in-Same-clause-dtype g c =
    let like = same_plan c.args.from.table.now c.args.plan c.in-Same.child c.requires.known c.in-Same.ensures.shape in
    IfOk-weaker c.range_of.result (λ column. column.dtype ≡ (node_at c.args.from.table.now c.in-Same.child).dtype) (λ column. column.dtype ≡ (node_at c.args.from.table.now c.args.plan).dtype) (λ column h. h ∙ sym like.dtype) c.range_of.ensures.dtype

pub range_of-returns-in-Same-clause-computed : goal.range_of-returns-in-Same-clause-computed
range_of-returns-in-Same-clause-computed g c = same_computed (held c.args.from) c.args.plan c.in-Same.child c.args.start (slice_range c.args.mask.now c.args.range.start c.args.range.end) c.range_of.result (same_law c.args.from.table.now c.args.plan c.in-Same.child c.requires.known c.in-Same.ensures.shape) c.range_of.ensures.computed

pub range_of-returns-in-Some-clause-rows : goal.range_of-returns-in-Some-clause-rows
range_of-returns-in-Some-clause-rows g c =
    let bits : List Bool = slice_range c.args.mask.now c.args.range.start c.args.range.end in
    let inside : c.args.start + length bits ≤ length c.in-Some.column.now.values = omega (arith, length_between c.args.mask.now c.args.range.start c.args.range.end c.requires.forwards c.requires.masked, c.requires.inside, (c.requires.held.leaves c.args.plan c.in-Some.column.now c.in-Some.ensures.1).1) in
    ap length c.in_ok-picked_range.ensures.values ∙ picked_count c.in-Some.column.now.values c.args.start bits inside

pub range_of-returns-in-Some-clause-computed : goal.range_of-returns-in-Some-clause-computed
range_of-returns-in-Some-clause-computed g c =
    let bits : List Bool = slice_range c.args.mask.now c.args.range.start c.args.range.end in
    let shape = c.in-Some.ensures.0 in
    let inside : c.args.start + length bits ≤ length c.in-Some.column.now.values = omega (arith, length_between c.args.mask.now c.args.range.start c.args.range.end c.requires.forwards c.requires.masked, c.requires.inside, (c.requires.held.leaves c.args.plan c.in-Some.column.now c.in-Some.ensures.1).1) in
    leaf_computed (held c.args.from) c.args.plan shape.0 c.args.start bits c.in-Some.column.now c.in_ok-picked_range.field-0 (leaf_plan c.args.from.table.now c.args.plan shape.0 c.requires.known shape.1) shape.1 c.in-Some.ensures.1 inside c.in_ok-picked_range.ensures.values

pub range_of-returns : goal.range_of-returns
range_of-returns g c =
    let bits : List Bool = slice_range c.args.mask.now c.args.range.start c.args.range.end in
    let some : c.in_ok-some.some ≡ bits = c.in_ok-some.ensures in
    let R : List Bool → Type 0 = λ bs. IfOk c.column_of.result (λ column. length column.values ≡ true_count bs) in
    let C : List Bool → Type 0 = λ bs. Computes (held c.args.from) c.args.plan c.args.start bs c.column_of.result in
    record { dtype = c.column_of.ensures.dtype; rows = subst R some c.column_of.ensures.rows; computed = subst C some c.column_of.ensures.computed }

-- ---- expressions

pub eval_of-returns-in-Err-clause-computed : goal.eval_of-returns-in-Err-clause-computed
eval_of-returns-in-Err-clause-computed g c =
    let over = over_plan c.args.from.table.now c.requires.good c.args.plan c.args.child c.requires.known c.requires.eval in
    eval_failed (held c.args.from) c.args.plan c.args.child c.args.start over.expression c.args.mask.now c.in-Err.error over.plan c.in-Err.ensures.computed

pub eval_of-worked_out-made-requires-clause-bound : goal.eval_of-worked_out-made-requires-clause-bound
eval_of-worked_out-made-requires-clause-bound g c =
    let over = eval_at c.args.from.table.now c.requires.good c.args.plan c.args.child c.in-Some.eval.plan c.expression.result.now c.requires.known c.requires.eval c.in-Some.ensures.same c.expression.ensures in
    λ uses. over.bound uses ∙ sym c.in-Ok.ensures.dtype

pub eval_of-returns-clause-dtype : goal.eval_of-returns-clause-dtype
eval_of-returns-clause-dtype g c =
    let over = eval_at c.args.from.table.now c.requires.good c.args.plan c.args.child c.in-Some.eval.plan c.expression.result.now c.requires.known c.requires.eval c.in-Some.ensures.same c.expression.ensures in
    IfOk-weaker c.worked_out-made.result (λ column. column.dtype ≡ c.expression.result.now.dtype) (λ column. column.dtype ≡ (node_at c.args.from.table.now c.args.plan).dtype) (λ column h. h ∙ sym over.dtype) c.worked_out-made.ensures.dtype

pub eval_of-returns-clause-computed : goal.eval_of-returns-clause-computed
eval_of-returns-clause-computed g c =
    let over = eval_at c.args.from.table.now c.requires.good c.args.plan c.args.child c.in-Some.eval.plan c.expression.result.now c.requires.known c.requires.eval c.in-Some.ensures.same c.expression.ensures in
    eval_computed (held c.args.from) c.args.plan c.args.child c.args.start c.expression.result.now c.args.mask.now c.in-Ok.root c.worked_out-made.result over c.in-Ok.ensures.dtype c.in-Ok.ensures.computed c.worked_out-made.ensures.values c.worked_out-made.ensures.fault

-- ---- fields

pub parts_of-column_of-requires : goal.parts_of-column_of-requires
parts_of-column_of-requires g c =
    let part = field_part c.args.from.table.now c.requires.good c.args.plan c.loop-place.place c.child_required-child.result.0 c.requires.known c.child_required-child.ensures.at c.child_required-child.ensures.lower in
    let lt : c.child_required-child.result.0 < c.args.plan = part.lower in
    let rows : (node_at c.args.from.table.now c.args.plan).rows ≡ (node_at c.args.from.table.now c.child_required-child.result.0).rows = part.rows in
    (omega arith, (part.known, (omega arith, (c.requires.held, ready_field (held c.args.from) c.args.plan c.args.start c.args.mask.now c.loop-place.place c.child_required-child.result.0 (pack_plan_at c.args.from.table.now c.requires.good c.args.plan c.requires.known) c.child_required-child.ensures.at c.requires.ready))))

pub parts_of-returns-in-Err-clause-fault : goal.parts_of-returns-in-Err-clause-fault
parts_of-returns-in-Err-clause-fault g c = field_failed (held c.args.from) c.args.plan c.args.start c.args.mask.now c.loop-place.place c.child_required-child.result.0 c.in-Err.error (pack_plan_at c.args.from.table.now c.requires.good c.args.plan c.requires.known) c.child_required-child.ensures.at c.in-Err.ensures.computed

pub parts_of-loop-place-preserved : goal.parts_of-loop-place-preserved
parts_of-loop-place-preserved g c = record {
  parts = rw c.in_ok-push-in-Ok.ensures.items (parts_more (held c.args.from) c.args.start c.args.mask.now (node_at c.args.from.table.now c.args.plan).children c.loop-place.place c.child_required-child.result.0 c.loop-place.parts.items c.in-Ok.part c.child_required-child.ensures.at c.loop-place.invariant.parts (record { dtype = c.in-Ok.ensures.dtype; computed = c.in-Ok.ensures.computed }));
  rows = rw c.in_ok-push-in-Ok.ensures.items (all_pushed (λ part. length part.values ≡ true_count c.args.mask.now) c.loop-place.parts.items c.in-Ok.part c.loop-place.invariant.rows c.in-Ok.ensures.rows);
  fit = rw c.in_ok-push-in-Ok.ensures.items (all_pushed IsFitting c.loop-place.parts.items c.in-Ok.part c.loop-place.invariant.fit c.len-rows.ensures.fit);
}

-- ---- whole values

pub whole_of_plan-returns-in_err-all-clause-computed : goal.whole_of_plan-returns-in_err-all-clause-computed
whole_of_plan-returns-in_err-all-clause-computed g c =
    let p = err_from_is_err_and c.from_residual.result c.from_residual.ensures.1 in
    let F : Result ColumnData StepError → Type 0 = ComputesWhole (held c.args.from) c.args.plan in
    rw (p.1, p.2) (whole_memory (held c.args.from) c.args.plan)

pub whole_of_plan-column_of-requires : goal.whole_of_plan-column_of-requires
whole_of_plan-column_of-requires g c =
    let all : c.in_ok-all.all ≡ replicate (node_at c.args.from.table.now c.args.plan).rows true = c.in_ok-all.ensures ∙ ap (λ (rows : ℕ). replicate rows true) c.row_count.ensures in
    let count : length c.in_ok-all.all ≡ (node_at c.args.from.table.now c.args.plan).rows = ap length all ∙ length-replicate (node_at c.args.from.table.now c.args.plan).rows true in
    let F : List Bool → Type 0 = λ bits. AreReady (alone (held c.args.from)) c.args.plan 0 bits in
    (omega arith, (c.requires.known, (omega arith, (record { leaves = c.requires.held.leaves; given = tt; made = c.requires.held.made; offset = c.requires.held.offset }, subst F (sym all) (ready_whole (held c.args.from) c.args.plan (node_at c.args.from.table.now c.args.plan).rows (replicate (node_at c.args.from.table.now c.args.plan).rows true) (λ place at. past_true (node_at c.args.from.table.now c.args.plan).rows place at) refl c.requires.ready)))))

pub whole_of_plan-returns-clause-computed : goal.whole_of_plan-returns-clause-computed
whole_of_plan-returns-clause-computed g c =
    let all : c.in_ok-all.all ≡ replicate (node_at c.args.from.table.now c.args.plan).rows true = c.in_ok-all.ensures ∙ ap (λ (rows : ℕ). replicate rows true) c.row_count.ensures in
    let F : List Bool → Type 0 = λ bits. Computes (alone (held c.args.from)) c.args.plan 0 bits c.column_of.result in
    whole_computed (held c.args.from) c.args.plan c.column_of.result (ap (λ h. h.rows) (head_in_table c.args.from.table.now c.requires.good c.args.plan c.requires.known)) (subst F all c.column_of.ensures.computed)

-- ---- takes

pub take_of-returns-in-Err-clause-computed : goal.take_of-returns-in-Err-clause-computed
take_of-returns-in-Err-clause-computed g c = codes_failed (held c.args.from) c.args.plan c.args.codes c.args.values c.args.start c.args.mask.now c.in-Err.error (take_plan_at c.args.from.table.now c.requires.good c.args.plan c.args.codes c.args.values c.requires.known c.requires.take) c.in-Err.ensures.computed

pub take_of-looked_up-made-requires-clause-unsigned : goal.take_of-looked_up-made-requires-clause-unsigned
take_of-looked_up-made-requires-clause-unsigned g c =
    let over = take_plan_at c.args.from.table.now c.requires.good c.args.plan c.args.codes c.args.values c.requires.known c.requires.take in
    subst IsUnsigned (sym c.in-Ok.ensures.dtype) over.unsigned

pub take_of-returns-in-Some-clause-dtype : goal.take_of-returns-in-Some-clause-dtype
take_of-returns-in-Some-clause-dtype g c =
    let over = take_plan_at c.args.from.table.now c.requires.good c.args.plan c.args.codes c.args.values c.requires.known c.requires.take in
    let typed = whole_typed (held c.args.from) c.args.values c.in-Some.values.now c.requires.held (sym c.in-Some.ensures) in
    IfOk-weaker c.looked_up-made.result (λ column. column.dtype ≡ nullable_where (nullability_of c.in-Ok.codes.dtype) c.in-Some.values.now.dtype) (λ column. column.dtype ≡ (node_at c.args.from.table.now c.args.plan).dtype)
    (λ column h. looked_dtype (node_at c.args.from.table.now c.args.codes).dtype (node_at c.args.from.table.now c.args.values).dtype column.dtype c.in-Ok.codes.dtype c.in-Some.values.now.dtype h c.in-Ok.ensures.dtype typed.0 ∙ sym over.dtype) c.looked_up-made.ensures.dtype

pub take_of-returns-in-Some-clause-computed : goal.take_of-returns-in-Some-clause-computed
take_of-returns-in-Some-clause-computed g c =
    let over = take_plan_at c.args.from.table.now c.requires.good c.args.plan c.args.codes c.args.values c.requires.known c.requires.take in
    let typed = whole_typed (held c.args.from) c.args.values c.in-Some.values.now c.requires.held (sym c.in-Some.ensures) in
    take_computed (held c.args.from) c.args.plan c.args.codes c.args.values c.args.start c.args.mask.now c.in-Ok.codes c.in-Some.values.now c.looked_up-made.result over c.in-Ok.ensures.computed
    (λ leaves are. whole_there (held c.args.from) leaves c.args.plan c.args.values c.in-Some.values.now over.given are (sym c.in-Some.ensures)) typed.1 c.looked_up-made.ensures.values c.looked_up-made.ensures.fault

pub take_of-whole_of_plan-requires : goal.take_of-whole_of_plan-requires
take_of-whole_of_plan-requires g c =
    let over = take_plan_at c.args.from.table.now c.requires.good c.args.plan c.args.codes c.args.values c.requires.known c.requires.take in
    let lt : c.args.values < c.args.plan = over.values_lower in
    let none : whole_in (held c.args.from) c.args.values ≡ None = sym c.in_default.ensures in
    (omega arith, (c.requires.good, (over.values_known, (c.requires.held, ready_values (held c.args.from) c.args.plan c.args.codes c.args.values c.args.start c.args.mask.now over (nothing_given (held c.args.from) c.args.values none) c.requires.some c.requires.ready))))

pub take_of-looked_up-made-requires-in-Ok-whole_of_plan-clause-unsigned : goal.take_of-looked_up-made-requires-in-Ok-whole_of_plan-clause-unsigned
take_of-looked_up-made-requires-in-Ok-whole_of_plan-clause-unsigned g c =
    let over = take_plan_at c.args.from.table.now c.requires.good c.args.plan c.args.codes c.args.values c.requires.known c.requires.take in
    subst IsUnsigned (sym c.in-Ok.ensures.dtype) over.unsigned

pub take_of-returns-in-Ok-whole_of_plan-clause-dtype : goal.take_of-returns-in-Ok-whole_of_plan-clause-dtype
take_of-returns-in-Ok-whole_of_plan-clause-dtype g c =
    let over = take_plan_at c.args.from.table.now c.requires.good c.args.plan c.args.codes c.args.values c.requires.known c.requires.take in
    IfOk-weaker c.looked_up-made-in-Ok-whole_of_plan.result (λ column. column.dtype ≡ nullable_where (nullability_of c.in-Ok.codes.dtype) c.in-Ok-whole_of_plan.values.dtype) (λ column. column.dtype ≡ (node_at c.args.from.table.now c.args.plan).dtype)
    (λ column h. looked_dtype (node_at c.args.from.table.now c.args.codes).dtype (node_at c.args.from.table.now c.args.values).dtype column.dtype c.in-Ok.codes.dtype c.in-Ok-whole_of_plan.values.dtype h c.in-Ok.ensures.dtype c.in-Ok-whole_of_plan.ensures.dtype ∙ sym over.dtype) c.looked_up-made-in-Ok-whole_of_plan.ensures.dtype

pub take_of-returns-in-Ok-whole_of_plan-clause-computed : goal.take_of-returns-in-Ok-whole_of_plan-clause-computed
take_of-returns-in-Ok-whole_of_plan-clause-computed g c =
    let over = take_plan_at c.args.from.table.now c.requires.good c.args.plan c.args.codes c.args.values c.requires.known c.requires.take in
    let none : whole_in (held c.args.from) c.args.values ≡ None = sym c.in_default.ensures in
    take_computed (held c.args.from) c.args.plan c.args.codes c.args.values c.args.start c.args.mask.now c.in-Ok.codes c.in-Ok-whole_of_plan.values c.looked_up-made-in-Ok-whole_of_plan.result over c.in-Ok.ensures.computed
    (λ leaves are. whole_made (held c.args.from) leaves c.args.plan c.args.values c.args.values (plan_head (plan_at c.args.from.table.now c.args.values)).rows c.in-Ok-whole_of_plan.values.values over.given none (c.in-Ok-whole_of_plan.ensures.computed leaves are)) c.in-Ok-whole_of_plan.ensures.rows c.looked_up-made-in-Ok-whole_of_plan.ensures.values c.looked_up-made-in-Ok-whole_of_plan.ensures.fault

pub take_of-returns-in-Err-whole_of_plan-clause-computed : goal.take_of-returns-in-Err-whole_of_plan-clause-computed
take_of-returns-in-Err-whole_of_plan-clause-computed g c =
    let over = take_plan_at c.args.from.table.now c.requires.good c.args.plan c.args.codes c.args.values c.requires.known c.requires.take in
    let none : whole_in (held c.args.from) c.args.values ≡ None = sym c.in_default.ensures in
    values_failed (held c.args.from) c.args.plan c.args.codes c.args.values c.args.start c.args.mask.now c.in-Err-whole_of_plan.error over none c.requires.some c.in-Err-whole_of_plan.ensures.computed

-- ---- shares

pub share_of-returns-in-Some-clause-rows : goal.share_of-returns-in-Some-clause-rows
share_of-returns-in-Some-clause-rows g c =
    let typed = whole_typed (held c.args.from) c.args.plan c.in-Some.column.now c.requires.held (sym c.in-Some.ensures) in
    ap length c.in_ok-picked.ensures.values ∙ picked_count c.in-Some.column.now.values c.args.start c.args.mask.now (omega (arith, typed.1))

pub share_of-returns-in-Some-clause-computed : goal.share_of-returns-in-Some-clause-computed
share_of-returns-in-Some-clause-computed g c =
    let over = share_plan_at c.args.from.table.now c.requires.good c.args.plan c.args.child c.requires.known c.requires.share in
    let typed = whole_typed (held c.args.from) c.args.plan c.in-Some.column.now c.requires.held (sym c.in-Some.ensures) in
    share_computed (held c.args.from) c.args.plan c.args.child c.args.start c.args.mask.now c.in-Some.column.now c.in_ok-picked.field-0 over c.requires.inside
    (λ leaves are. share_there (held c.args.from) leaves c.args.plan c.args.child c.in-Some.column.now over are (sym c.in-Some.ensures)) typed.1 c.in_ok-picked.ensures.values

pub share_of-whole_of_plan-requires : goal.share_of-whole_of_plan-requires
share_of-whole_of_plan-requires g c =
    let over = share_plan_at c.args.from.table.now c.requires.good c.args.plan c.args.child c.requires.known c.requires.share in
    let lt : c.args.child < c.args.plan = over.like.lower in
    let none : whole_in (held c.args.from) c.args.plan ≡ None = sym c.in_default.ensures in
    (omega arith, (c.requires.good, (over.like.known, (c.requires.held, ready_shared (held c.args.from) c.args.plan c.args.child c.args.start c.args.mask.now over (nothing_given (held c.args.from) c.args.plan none) c.requires.some c.requires.ready))))

pub share_of-picked-rows-requires : goal.share_of-picked-rows-requires
share_of-picked-rows-requires g c =
    let over = share_plan_at c.args.from.table.now c.requires.good c.args.plan c.args.child c.requires.known c.requires.share in
    let rows : (node_at c.args.from.table.now c.args.plan).rows ≡ (node_at c.args.from.table.now c.args.child).rows = over.like.rows in
    omega (arith, c.in-Ok.ensures.rows)

pub share_of-returns-in_ok-rows-in-Ok-clause-dtype : goal.share_of-returns-in_ok-rows-in-Ok-clause-dtype
share_of-returns-in_ok-rows-in-Ok-clause-dtype g c =
    let over = share_plan_at c.args.from.table.now c.requires.good c.args.plan c.args.child c.requires.known c.requires.share in
    c.in_ok-rows-in-Ok.ensures.dtype ∙ c.in-Ok.ensures.dtype ∙ sym over.like.dtype

pub share_of-returns-in_ok-rows-in-Ok-clause-rows : goal.share_of-returns-in_ok-rows-in-Ok-clause-rows
share_of-returns-in_ok-rows-in-Ok-clause-rows g c =
    let over = share_plan_at c.args.from.table.now c.requires.good c.args.plan c.args.child c.requires.known c.requires.share in
    let rows : (node_at c.args.from.table.now c.args.plan).rows ≡ (node_at c.args.from.table.now c.args.child).rows = over.like.rows in
    ap length c.in_ok-rows-in-Ok.ensures.values ∙ picked_count c.in-Ok.column.values c.args.start c.args.mask.now (omega (arith, c.in-Ok.ensures.rows))

pub share_of-returns-in_ok-rows-in-Ok-clause-computed : goal.share_of-returns-in_ok-rows-in-Ok-clause-computed
share_of-returns-in_ok-rows-in-Ok-clause-computed g c =
    let over = share_plan_at c.args.from.table.now c.requires.good c.args.plan c.args.child c.requires.known c.requires.share in
    let none : whole_in (held c.args.from) c.args.plan ≡ None = sym c.in_default.ensures in
    let head : (plan_head (plan_at c.args.from.table.now c.args.child)).rows ≡ (node_at c.args.from.table.now c.args.child).rows = ap (λ h. h.rows) over.child_head in
    share_computed (held c.args.from) c.args.plan c.args.child c.args.start c.args.mask.now c.in-Ok.column c.in_ok-rows-in-Ok.rows over c.requires.inside
    (λ leaves are. share_made (held c.args.from) leaves c.args.plan c.args.child c.in-Ok.column.values over none (c.in-Ok.ensures.computed leaves are)) (c.in-Ok.ensures.rows ∙ sym over.like.rows) c.in_ok-rows-in-Ok.ensures.values

pub share_of-returns-in-Err-clause-computed : goal.share_of-returns-in-Err-clause-computed
share_of-returns-in-Err-clause-computed g c =
    let over = share_plan_at c.args.from.table.now c.requires.good c.args.plan c.args.child c.requires.known c.requires.share in
    shared_failed (held c.args.from) c.args.plan c.args.child c.args.start c.args.mask.now c.in-Err.error over (sym c.in_default.ensures) c.requires.some c.in-Err.ensures.computed

-- ---- whether zones are pruned

pub prune_of-column_of-requires : goal.prune_of-column_of-requires
prune_of-column_of-requires g c =
    let over = pruning_plan_at c.args.from.table.now c.requires.good c.args.plan c.args.zones c.requires.known c.requires.pruning in
    let lt : c.args.zones < c.args.plan = over.lower in
    let bits : c.in_ok-all.all ≡ all_rows (node_at c.args.from.table.now c.args.zones).rows = c.in_ok-all.ensures ∙ ap (λ (rows : ℕ). replicate rows true) c.row_count.ensures in
    let count : length c.in_ok-all.all ≡ (node_at c.args.from.table.now c.args.zones).rows = ap length bits ∙ length-replicate (node_at c.args.from.table.now c.args.zones).rows true in
    let F : List Bool → Type 0 = λ bs. AreReady (held c.args.from) c.args.zones 0 bs in
    (omega arith, (over.known, (omega arith, (c.requires.held, subst F (sym bits) (ready_zones (held c.args.from) c.args.plan c.args.zones c.args.start c.args.mask.now over c.requires.some c.requires.ready)))))

pub prune_of-pruned_of-requires-clause-pruning : goal.prune_of-pruned_of-requires-clause-pruning
prune_of-pruned_of-requires-clause-pruning g c =
    pruning_kind c.args.from.table.now c.args.plan c.args.zones c.requires.known (pruning_plan_at c.args.from.table.now c.requires.good c.args.plan c.args.zones c.requires.known c.requires.pruning)

pub prune_of-pruned_of-requires-clause-told : goal.prune_of-pruned_of-requires-clause-told
prune_of-pruned_of-requires-clause-told g c =
    let over = pruning_plan_at c.args.from.table.now c.requires.good c.args.plan c.args.zones c.requires.known c.requires.pruning in
    let bits : c.in_ok-all.all ≡ all_rows (node_at c.args.from.table.now c.args.zones).rows = c.in_ok-all.ensures ∙ ap (λ (rows : ℕ). replicate rows true) c.row_count.ensures in
    told_of_zones c.args.from.table.now c.args.plan c.args.zones c.in-Ok.told over c.in-Ok.ensures.dtype (c.in-Ok.ensures.rows ∙ ap true_count bits ∙ all_counted (node_at c.args.from.table.now c.args.zones).rows)

pub prune_of-returns-in-Ok-clause-dtype : goal.prune_of-returns-in-Ok-clause-dtype
prune_of-returns-in-Ok-clause-dtype g c =
    let over = pruning_plan_at c.args.from.table.now c.requires.good c.args.plan c.args.zones c.requires.known c.requires.pruning in
    IfOk-weaker c.pruned_of.result (λ column. column.dtype ≡ bool_type NonNullable) (λ column. column.dtype ≡ (node_at c.args.from.table.now c.args.plan).dtype) (λ column h. h ∙ sym over.truths) c.pruned_of.ensures.dtype

pub prune_of-returns-in-Ok-clause-computed : goal.prune_of-returns-in-Ok-clause-computed
prune_of-returns-in-Ok-clause-computed g c =
    let over = pruning_plan_at c.args.from.table.now c.requires.good c.args.plan c.args.zones c.requires.known c.requires.pruning in
    let bits : c.in_ok-all.all ≡ all_rows (node_at c.args.from.table.now c.args.zones).rows = c.in_ok-all.ensures ∙ ap (λ (rows : ℕ). replicate rows true) c.row_count.ensures in
    let F : List Bool → Type 0 = λ bs. Computes (held c.args.from) c.args.zones 0 bs (Ok c.in-Ok.told) in
    pruned_result (held c.args.from) c.args.plan c.args.zones c.args.start c.args.mask.now c.in-Ok.told c.pruned_of.result over c.requires.inside (c.in-Ok.ensures.rows ∙ ap true_count bits ∙ all_counted (node_at c.args.from.table.now c.args.zones).rows) (subst F bits c.in-Ok.ensures.computed) c.pruned_of.ensures.values c.pruned_of.ensures.memory

pub prune_of-returns-clause-computed : goal.prune_of-returns-clause-computed
prune_of-returns-clause-computed g c =
    let over = pruning_plan_at c.args.from.table.now c.requires.good c.args.plan c.args.zones c.requires.known c.requires.pruning in
    let bits : c.in_ok-all.all ≡ all_rows (node_at c.args.from.table.now c.args.zones).rows = c.in_ok-all.ensures ∙ ap (λ (rows : ℕ). replicate rows true) c.row_count.ensures in
    let F : List Bool → Type 0 = λ bs. Computes (held c.args.from) c.args.zones 0 bs (Err c.in-Err.error) in
    pruned_failed (held c.args.from) c.args.plan c.args.zones c.args.start c.args.mask.now c.in-Err.error over c.requires.some (subst F bits c.in-Err.ensures.computed)

-- ---- structs

pub structs_of-structs-requires-clause-typed : goal.structs_of-structs-requires-clause-typed
structs_of-structs-requires-clause-typed g c = parts_typed (held c.args.from) c.args.start c.args.mask.now (node_at c.args.from.table.now c.args.plan).children c.in-Ok.parts.items c.in-Ok.ensures.parts

pub structs_of-returns-in_ok-structs-in-Ok-clause-rows : goal.structs_of-returns-in_ok-structs-in-Ok-clause-rows
structs_of-returns-in_ok-structs-in-Ok-clause-rows g c = ap length c.in_ok-structs-in-Ok.ensures.values ∙ structs_count (has_validity_of (node_at c.args.from.table.now c.args.plan).kind) c.in-Ok.parts.items c.true_count.result ∙ c.true_count.ensures

pub structs_of-returns-in_ok-structs-in-Ok-clause-computed : goal.structs_of-returns-in_ok-structs-in-Ok-clause-computed
structs_of-returns-in_ok-structs-in-Ok-clause-computed g c =
    let over = pack_plan_at c.args.from.table.now c.requires.good c.args.plan c.requires.known in
    let F : ℕ → Type 0 = λ rows. c.in_ok-structs-in-Ok.field-0.values ≡ structs_at (has_validity_of (node_at c.args.from.table.now c.args.plan).kind) c.in-Ok.parts.items rows in
    structs_computed (held c.args.from) c.requires.good c.args.plan c.args.start c.args.mask.now c.in-Ok.parts.items c.in_ok-structs-in-Ok.field-0 over c.requires.known c.in-Ok.ensures.parts c.in-Ok.ensures.fit (subst F c.true_count.ensures c.in_ok-structs-in-Ok.ensures.values)
