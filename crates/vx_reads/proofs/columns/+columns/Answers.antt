use Rattle.std.proofs.Common.{◌≡◌, ℕ, ◌+◌, ◌-◌, ◌<◌, Bool, true, false, List, [], ◌∷◌, ◌++◌, length, drop, get_or, replicate, refl, sym, ap, ◌∙◌, subst, arith, rules}
use Rattle.std.specs.Prelude.{slice_range, All}
use Rattle.vx_base.specs.Masks.{true_count}
use Rattle.std.proofs.lemmas.List.{length-append, length-replicate}
use Rattle.std.proofs.lemmas.List.Elements.{All-head, All-tail}
use Rattle.vx_base.specs.Data.{DataType}
use Rattle.vx_layout.specs.Kept.{all}
use Rattle.vx_layout.specs.Rows.{derivation, derivation_in, struct_members}
use Rattle.vx_layout.specs.Shape.{IsLater}
use Rattle.vx_layout.specs.Trees.{subtree}
use Rattle.vx_reads.specs.Computed.{AddsRows, AreRowsBy, Fails}
use Rattle.vx_reads.specs.Came.{Begin}
use Rattle.vx_reads.specs.Needed.{needed, needed_in, needed_of_each, needed_of_range}
use Rattle.vx_reads.specs.Readable.{tree_head, trees_of}
use Rattle.vx_picking.specs.Rows.{selects_some}
use Rattle.vx_reads.proofs.Chunking.{begin_left, begin_next, left_needed}
use Rattle.vx_reads.proofs.ByKind.{alike_here, alike_left, chunk_dtype, chunk_there, chunks_added, chunks_cause, chunks_failed, chunks_values, codes_failed, count_all, dict_cause, dict_needed, dict_values, fits_left, leaf_cause, leaf_values, none_by, values_failed, zoned_added, zoned_cause, zoned_dtype, zoned_failed, zoned_needed, zoned_values}
use Rattle.vx_reads.proofs.Computing.{adds_none, adds_then, fails_up, finds_in_range}
use Rattle.vx_reads.proofs.FieldColumns.{columns_more, struct_count, struct_parts_fit, struct_values}
use Rattle.vx_reads.proofs.FieldTrees.{bare_struct, field_failed, field_rows, fields_left, struct_needed}
use Rattle.vx_picking.proofs.MaskRanges.{length_between}
use Rattle.vx_reads.proofs.Ranges.{IsHere}
use Rattle.vx_picking.proofs.SelectedRows.{none_count, none_rows, some_long}
use Rattle.vx_reads.proofs.columns.+columns.Goals as goal

pub add_range-returns-then-not-selects_some-clause-added : goal.add_range-returns-then-not-selects_some-clause-added
add_range-returns-then-not-selects_some-clause-added g c =
    let bits = slice_range c.args.mask.now c.args.range.start c.args.range.end in
    let none : selects_some (slice_range c.args.mask.now c.args.range.start c.args.range.end) ≡ false = ap selects_some (sym c.in_ok-some.ensures) ∙ sym c.selects_some.ensures ∙ (search rules) in
    adds_none c.args.reads.now (tree_head c.args.tree.now c.args.node).dtype (derivation (subtree c.args.tree.now c.args.node) all) c.args.start bits c.args.parts.now.items (none_rows c.args.start bits none) (none_count bits none)

pub add_range-returns-clause-cause : goal.add_range-returns-clause-cause
add_range-returns-clause-cause g c =
    let long = ap length c.in_ok-some.ensures ∙ length_between c.args.mask.now c.args.range.start c.args.range.end c.requires.forwards c.requires.masked in
    let F : ℕ → Type 0 = λ count. Fails c.args.reads.now (derivation (subtree c.args.tree.now c.args.node) all) c.args.start count c.in-Err.error in
    subst F long c.in-Err.ensures.cause

pub add_chunks-add_range-requires : goal.add_chunks-add_range-requires
add_chunks-add_range-requires g c =
    let nodes = c.args.tree.now in
    let chunk = get_or c.args.chunks.now c.loop-chunk.chunk-index 0 in
    let lt : c.loop-chunk.chunk-index < length c.args.chunks.now = c.loop-chunk-test.true in
    let at = chunk_there c.args.chunks.now c.loop-chunk.chunk-index lt in
    let rows : c.rows_at-rows.result ≡ (tree_head c.args.tree.now (get_or c.args.chunks.now c.loop-chunk.chunk-index 0)).rows = c.rows_at-rows.ensures in
    let done_is : c.rows_here-here.result.start ≡ c.loop-chunk.done = c.rows_here-here.ensures.start in
    let here : IsHere c.args.mask.now c.loop-chunk.done c.rows_here-here.result.end ((tree_head c.args.tree.now (get_or c.args.chunks.now c.loop-chunk.chunk-index 0)).rows - c.loop-chunk.row) = record {
      forwards = (let h = c.rows_here-here.ensures.forwards in omega arith);
      inside = (let h = c.rows_here-here.ensures.inside in let e = c.len.ensures in omega arith);
      most = (let h = c.rows_here-here.ensures.end in omega arith);
      whole = λ less. (let e = c.len.ensures in let h = c.rows_here-here.ensures.whole (omega arith) in omega arith);
    } in
    let later : IsLater c.args.tree.now c.args.node (get_or c.args.chunks.now c.loop-chunk.chunk-index 0) = c.requires.chunked.later c.loop-chunk.chunk-index 0 lt in
    let above = later.0 in
    let known = later.1 in
    let most = here.most in
    let needs = left_needed c.args.tree.now c.args.chunks.now c.loop-chunk.chunk-index chunk c.loop-chunk.row c.args.mask.now c.loop-chunk.done c.rows_here-here.result.end at here in
    let ready = begin_left (needed_of_range (subtree nodes chunk) c.loop-chunk.row (slice_range c.args.mask.now c.loop-chunk.done c.rows_here-here.result.end)) _ _ (subst (λ (ns : List ℕ). Begin ns (drop c.loop-chunk.next c.args.reads.now)) needs c.loop-chunk.invariant.ready) in
    (omega arith, (known, (c.requires.readable, (c.rows_here-here.ensures.forwards, (omega (arith, c.rows_here-here.ensures.inside, c.len.ensures), (λ less. omega arith, rw done_is ready))))))

pub add_chunks-returns-in-Err-clause-cause : goal.add_chunks-returns-in-Err-clause-cause
add_chunks-returns-in-Err-clause-cause g c =
    let nodes = c.args.tree.now in
    let chunk = get_or c.args.chunks.now c.loop-chunk.chunk-index 0 in
    let lt : c.loop-chunk.chunk-index < length c.args.chunks.now = c.loop-chunk-test.true in
    let at = chunk_there c.args.chunks.now c.loop-chunk.chunk-index lt in
    let rows : c.rows_at-rows.result ≡ (tree_head c.args.tree.now (get_or c.args.chunks.now c.loop-chunk.chunk-index 0)).rows = c.rows_at-rows.ensures in
    let done_is : c.rows_here-here.result.start ≡ c.loop-chunk.done = c.rows_here-here.ensures.start in
    let here : IsHere c.args.mask.now c.loop-chunk.done c.rows_here-here.result.end ((tree_head c.args.tree.now (get_or c.args.chunks.now c.loop-chunk.chunk-index 0)).rows - c.loop-chunk.row) = record {
      forwards = (let h = c.rows_here-here.ensures.forwards in omega arith);
      inside = (let h = c.rows_here-here.ensures.inside in let e = c.len.ensures in omega arith);
      most = (let h = c.rows_here-here.ensures.end in omega arith);
      whole = λ less. (let e = c.len.ensures in let h = c.rows_here-here.ensures.whole (omega arith) in omega arith);
    } in
    let r = derivation_in (trees_of nodes c.args.chunks.now) all in
    let r2 = derivation (subtree nodes chunk) all in
    let F : ℕ → Type 0 = λ from. Fails c.args.reads.now (derivation (subtree c.args.tree.now (get_or c.args.chunks.now c.loop-chunk.chunk-index 0)) all) c.loop-chunk.row (c.rows_here-here.result.end - from) c.in-Err.error in
    fails_up c.args.reads.now r2 c.loop-chunk.row (c.rows_here-here.result.end - c.loop-chunk.done) r c.args.start (length c.args.mask.now)
    (finds_in_range r r2 c.args.start c.loop-chunk.row c.loop-chunk.done c.rows_here-here.result.end (length c.args.mask.now) here.inside
    (alike_here nodes c.args.chunks.now c.loop-chunk.chunk-index chunk c.args.start c.loop-chunk.row c.loop-chunk.done c.rows_here-here.result.end c.args.mask.now at here c.loop-chunk.invariant.alike))
    c.in-Err.error (subst F done_is c.in-Err.ensures.cause)

pub add_chunks-loop-chunk-preserved : goal.add_chunks-loop-chunk-preserved
add_chunks-loop-chunk-preserved g c =
    let nodes = c.args.tree.now in
    let chunk = get_or c.args.chunks.now c.loop-chunk.chunk-index 0 in
    let lt : c.loop-chunk.chunk-index < length c.args.chunks.now = c.loop-chunk-test.true in
    let at = chunk_there c.args.chunks.now c.loop-chunk.chunk-index lt in
    let rows : c.rows_at-rows.result ≡ (tree_head c.args.tree.now (get_or c.args.chunks.now c.loop-chunk.chunk-index 0)).rows = c.rows_at-rows.ensures in
    let done_is : c.rows_here-here.result.start ≡ c.loop-chunk.done = c.rows_here-here.ensures.start in
    let here : IsHere c.args.mask.now c.loop-chunk.done c.rows_here-here.result.end ((tree_head c.args.tree.now (get_or c.args.chunks.now c.loop-chunk.chunk-index 0)).rows - c.loop-chunk.row) = record {
      forwards = (let h = c.rows_here-here.ensures.forwards in omega arith);
      inside = (let h = c.rows_here-here.ensures.inside in let e = c.len.ensures in omega arith);
      most = (let h = c.rows_here-here.ensures.end in omega arith);
      whole = λ less. (let e = c.len.ensures in let h = c.rows_here-here.ensures.whole (omega arith) in omega arith);
    } in
    let r = derivation_in (trees_of nodes c.args.chunks.now) all in
    let r2 = derivation (subtree nodes chunk) all in
    let row_is : c.saturating_sub-row.result ≡ c.loop-chunk.row - (tree_head c.args.tree.now (get_or c.args.chunks.now c.loop-chunk.chunk-index 0)).rows = c.saturating_sub-row.ensures ∙ ap (λ (k : ℕ). c.loop-chunk.row - k) rows in
    let needs = left_needed nodes c.args.chunks.now c.loop-chunk.chunk-index chunk c.loop-chunk.row c.args.mask.now c.loop-chunk.done c.rows_here-here.result.end at here in
    let now = needed_of_range (subtree nodes chunk) c.loop-chunk.row (slice_range c.args.mask.now c.loop-chunk.done c.rows_here-here.result.end) in
    let rest = needed_in (trees_of nodes (drop (c.loop-chunk.chunk-index + 1) c.args.chunks.now)) (c.loop-chunk.row - (tree_head nodes chunk).rows) (drop c.rows_here-here.result.end c.args.mask.now) in
    let typed = chunk_dtype c.args.tree.now (tree_head c.args.tree.now c.args.node).dtype c.args.chunks.now c.loop-chunk.chunk-index (get_or c.args.chunks.now c.loop-chunk.chunk-index 0) c.requires.chunked.sound.0 at in
    let went : c.add_range.new.next ≡ c.loop-chunk.next + length (needed_of_range (subtree c.args.tree.now (get_or c.args.chunks.now c.loop-chunk.chunk-index 0)) c.loop-chunk.row (slice_range c.args.mask.now c.loop-chunk.done c.rows_here-here.result.end)) = rw done_is at c.in-Ok.ensures.passed in
    record {
      inside = here.inside;
      fits = rw row_is (fits_left nodes c.args.chunks.now c.loop-chunk.chunk-index chunk c.loop-chunk.row c.loop-chunk.done c.rows_here-here.result.end c.args.mask.now at here c.loop-chunk.invariant.fits);
      alike = rw row_is (alike_left nodes c.args.chunks.now c.loop-chunk.chunk-index chunk c.args.start c.loop-chunk.row c.loop-chunk.done c.rows_here-here.result.end c.args.mask.now at here c.loop-chunk.invariant.alike);
      ready = rw row_is (begin_next now rest c.args.reads.now c.loop-chunk.next c.add_range.new.next went (subst (λ (ns : List ℕ). Begin ns (drop c.loop-chunk.next c.args.reads.now)) needs c.loop-chunk.invariant.ready));
      passed = rw row_is (let all_needed = ap length needs ∙ length-append now rest in omega (arith, went, all_needed, c.loop-chunk.invariant.passed));
      added = adds_then c.args.reads.now (tree_head nodes c.args.node).dtype r r2 c.args.start c.loop-chunk.row c.loop-chunk.done c.rows_here-here.result.end c.args.mask.now c.args.parts.now.items c.loop-chunk.parts.items _ here.forwards here.inside
          (alike_here nodes c.args.chunks.now c.loop-chunk.chunk-index chunk c.args.start c.loop-chunk.row c.loop-chunk.done c.rows_here-here.result.end c.args.mask.now at here c.loop-chunk.invariant.alike)
          c.loop-chunk.invariant.added (subst (λ (t : DataType). AddsRows c.args.reads.now t r2 c.loop-chunk.row (slice_range c.args.mask.now c.loop-chunk.done c.rows_here-here.result.end) c.loop-chunk.parts.items c.add_range.new.parts.items) typed (rw done_is at c.in-Ok.ensures.added));
    }

pub node_column-returns-else-len-eq0-clause-values : goal.node_column-returns-else-len-eq0-clause-values
node_column-returns-else-len-eq0-clause-values g c =
    leaf_values c.leaf_column.result (subtree c.args.tree.now c.args.node) (tree_head c.args.tree.now c.args.node) c.in-Leaf.segment c.in-Leaf.coding c.args.start c.args.next.now c.args.mask.now c.take_bytes-bytes.result.now c.args.reads.now c.in-Leaf.ensures.tree (omega (arith, c.len.ensures, c.if-len-eq0.false)) c.take_bytes-bytes.ensures.bytes c.requires.ready c.leaf_column.ensures.values

pub node_column-returns-else-len-eq0-clause-cause : goal.node_column-returns-else-len-eq0-clause-cause
node_column-returns-else-len-eq0-clause-cause g c =
    leaf_cause c.leaf_column.result (subtree c.args.tree.now c.args.node) (tree_head c.args.tree.now c.args.node) c.in-Leaf.segment c.in-Leaf.coding c.args.start c.args.next.now c.args.mask.now c.take_bytes-bytes.result.now c.args.reads.now c.in-Leaf.ensures.tree (omega (arith, c.len.ensures, c.if-len-eq0.false)) c.take_bytes-bytes.ensures.bytes c.requires.ready c.leaf_column.ensures.cause

pub node_column-returns-in-Chunks-clause-values : goal.node_column-returns-in-Chunks-clause-values
node_column-returns-in-Chunks-clause-values g c =
    chunks_values c.chunks_column.result (subtree c.args.tree.now c.args.node) (tree_head c.args.tree.now c.args.node) _ c.args.start c.args.mask.now c.args.reads.now c.in-Chunks.ensures.tree c.chunks_column.ensures.values

pub node_column-returns-in-Chunks-clause-cause : goal.node_column-returns-in-Chunks-clause-cause
node_column-returns-in-Chunks-clause-cause g c =
    chunks_cause c.chunks_column.result (subtree c.args.tree.now c.args.node) (tree_head c.args.tree.now c.args.node) _ c.args.start (length c.args.mask.now) c.args.reads.now c.in-Chunks.ensures.tree c.chunks_column.ensures.cause

pub dict_column-returns-then-not-selects_some-clause-rows : goal.dict_column-returns-then-not-selects_some-clause-rows
dict_column-returns-then-not-selects_some-clause-rows g c =
    let none : selects_some c.args.mask.now ≡ false = sym c.selects_some.ensures ∙ (search rules) in
    c.in_ok-empty_at.ensures.rows ∙ sym (none_count c.args.mask.now none)

pub dict_column-returns-then-not-selects_some-clause-values : goal.dict_column-returns-then-not-selects_some-clause-values
dict_column-returns-then-not-selects_some-clause-values g c =
    let none : selects_some c.args.mask.now ≡ false = sym c.selects_some.ensures ∙ (search rules) in
    none_by c.args.reads.now (derivation (subtree c.args.tree.now c.args.node) all) c.args.start c.args.mask.now _ (none_rows c.args.start c.args.mask.now none) c.in_ok-empty_at.ensures.rows

pub dict_parts-node_column-requires : goal.dict_parts-node_column-requires
dict_parts-node_column-requires g c =
    let values = subtree c.args.tree.now c.args.values in
    let codes = subtree c.args.tree.now c.args.codes in
    let needs = dict_needed (subtree c.args.tree.now c.args.node) (tree_head c.args.tree.now c.args.node) values codes c.args.start c.args.mask.now c.requires.dict.tree c.requires.some in
    let ready : Begin (needed codes c.args.start c.args.mask.now ++ needed values 0 (replicate (tree_head c.args.tree.now c.args.values).rows true)) (drop c.args.next.now c.args.reads.now) = subst (λ (ns : List ℕ). Begin ns (drop c.args.next.now c.args.reads.now)) needs c.requires.ready in
    let later : IsLater c.args.tree.now c.args.node c.args.codes = All-head (IsLater c.args.tree.now c.args.node) c.args.codes (c.args.values ∷ []) c.requires.dict.later in
    let above = later.0 in
    let known = later.1 in
    let rows = c.requires.dict.sound.2.rows in
    (omega arith, (known, (c.requires.readable, (omega (arith, rows, c.requires.inside), begin_left (needed codes c.args.start c.args.mask.now) (needed values 0 (replicate (tree_head c.args.tree.now c.args.values).rows true)) (drop c.args.next.now c.args.reads.now) ready))))

pub dict_parts-returns-in-Err-clause-cause : goal.dict_parts-returns-in-Err-clause-cause
dict_parts-returns-in-Err-clause-cause g c =
    codes_failed c.in-Err.error (subtree c.args.tree.now c.args.node) (tree_head c.args.tree.now c.args.node) (subtree c.args.tree.now c.args.values) (subtree c.args.tree.now c.args.codes) c.args.start (length c.args.mask.now) c.args.reads.now c.requires.dict.tree c.in-Err.ensures.cause

pub dict_parts-node_column-requires-2 : goal.dict_parts-node_column-requires-2
dict_parts-node_column-requires-2 g c =
    let values = subtree c.args.tree.now c.args.values in
    let codes = subtree c.args.tree.now c.args.codes in
    let needs = dict_needed (subtree c.args.tree.now c.args.node) (tree_head c.args.tree.now c.args.node) values codes c.args.start c.args.mask.now c.requires.dict.tree c.requires.some in
    let ready : Begin (needed codes c.args.start c.args.mask.now ++ needed values 0 (replicate (tree_head c.args.tree.now c.args.values).rows true)) (drop c.args.next.now c.args.reads.now) = subst (λ (ns : List ℕ). Begin ns (drop c.args.next.now c.args.reads.now)) needs c.requires.ready in
    let all_is : c.in_ok-all.all ≡ replicate (tree_head c.args.tree.now c.args.values).rows true = c.in_ok-all.ensures ∙ ap (λ (k : ℕ). replicate k true) c.rows_at.ensures in
    let rest : All (IsLater c.args.tree.now c.args.node) (c.args.values ∷ []) = All-tail (IsLater c.args.tree.now c.args.node) c.args.codes (c.args.values ∷ []) c.requires.dict.later in
    let later : IsLater c.args.tree.now c.args.node c.args.values = All-head (IsLater c.args.tree.now c.args.node) c.args.values [] rest in
    let above = later.0 in
    let known = later.1 in
    let long = ap length all_is ∙ length-replicate (tree_head c.args.tree.now c.args.values).rows true in
    (omega arith, (known, (c.requires.readable, (omega (arith, long), rw all_is (begin_next (needed codes c.args.start c.args.mask.now) (needed values 0 (replicate (tree_head c.args.tree.now c.args.values).rows true)) c.args.reads.now c.args.next.now c.node_column.new.next c.in-Ok.ensures.passed ready)))))

pub dict_parts-returns-in-Ok-node_column-clause-values_count : goal.dict_parts-returns-in-Ok-node_column-clause-values_count
dict_parts-returns-in-Ok-node_column-clause-values_count g c =
    let all_is : c.in_ok-all.all ≡ replicate (tree_head c.args.tree.now c.args.values).rows true = c.in_ok-all.ensures ∙ ap (λ (k : ℕ). replicate k true) c.rows_at.ensures in
    c.in-Ok-node_column.ensures.rows ∙ ap true_count all_is ∙ count_all (tree_head c.args.tree.now c.args.values).rows

pub dict_parts-returns-in-Ok-node_column-clause-values : goal.dict_parts-returns-in-Ok-node_column-clause-values
dict_parts-returns-in-Ok-node_column-clause-values g c =
    let all_is : c.in_ok-all.all ≡ replicate (tree_head c.args.tree.now c.args.values).rows true = c.in_ok-all.ensures ∙ ap (λ (k : ℕ). replicate k true) c.rows_at.ensures in
    subst (λ (every : List Bool). AreRowsBy c.args.reads.now (derivation (subtree c.args.tree.now c.args.values) all) 0 every c.in-Ok-node_column.values.values) all_is c.in-Ok-node_column.ensures.values

pub dict_parts-returns-clause-cause : goal.dict_parts-returns-clause-cause
dict_parts-returns-clause-cause g c =
    let all_is : c.in_ok-all.all ≡ replicate (tree_head c.args.tree.now c.args.values).rows true = c.in_ok-all.ensures ∙ ap (λ (k : ℕ). replicate k true) c.rows_at.ensures in
    let long = ap length all_is ∙ length-replicate (tree_head c.args.tree.now c.args.values).rows true in
    values_failed c.in-Err-node_column.error (subtree c.args.tree.now c.args.node) (tree_head c.args.tree.now c.args.node) (subtree c.args.tree.now c.args.values) (subtree c.args.tree.now c.args.codes) c.args.start (length c.args.mask.now) (length c.in_ok-all.all) c.args.reads.now c.requires.dict.tree (omega (arith, long)) (some_long c.args.mask.now c.requires.some) c.in-Err-node_column.ensures.cause

pub dict_column-returns-in-Ok-made-clause-values : goal.dict_column-returns-in-Ok-made-clause-values
dict_column-returns-in-Ok-made-clause-values g c =
    dict_values (subtree c.args.tree.now c.args.node) (tree_head c.args.tree.now c.args.node) (subtree c.args.tree.now c.args.values) (subtree c.args.tree.now c.args.codes) c.args.start c.args.mask.now (replicate (tree_head c.args.tree.now c.args.values).rows true) c.in-Ok.parts.codes.values c.in-Ok.parts.values.values c.in-Ok-made.column.values c.args.reads.now c.requires.dict.tree refl c.in-Ok.ensures.codes c.in-Ok.ensures.values c.in-Ok-made.ensures.values

pub dict_column-returns-in-Err-made-clause-cause : goal.dict_column-returns-in-Err-made-clause-cause
dict_column-returns-in-Err-made-clause-cause g c =
    rw c.look_up_fault.ensures.is (dict_cause c.in-Err-made.error (subtree c.args.tree.now c.args.node) (tree_head c.args.tree.now c.args.node) (subtree c.args.tree.now c.args.values) (subtree c.args.tree.now c.args.codes) c.args.node c.args.start c.args.mask.now c.in-Ok.parts.codes.values c.in-Ok.parts.values.values c.args.reads.now c.requires.dict.tree c.requires.dict.number c.in-Ok.ensures.codes c.in-Ok.ensures.values_count c.in-Err-made.ensures.fault)

pub add_parts-add_parts-requires : goal.add_parts-add_parts-requires
add_parts-add_parts-requires g c =
    let over = c.in-Zoned.ensures.0 in
    let later : IsLater c.args.tree.now c.args.node c.in-Zoned.content = All-head (IsLater c.args.tree.now c.args.node) c.in-Zoned.content (c.in-Zoned.zones ∷ []) over.later in
    let above = later.0 in
    let known = later.1 in
    let rows = over.sound.1.rows in
    let needs = zoned_needed (subtree c.args.tree.now c.args.node) (tree_head c.args.tree.now c.args.node) _ (subtree c.args.tree.now c.in-Zoned.content) _ c.args.start c.args.mask.now over.tree in
    (omega arith, (known, (c.requires.readable, (omega (arith, rows, c.requires.inside), subst (λ (ns : List ℕ). Begin ns (drop c.args.next.now c.args.reads.now)) needs c.requires.ready))))

pub add_parts-returns-in-Zoned-clause-added : goal.add_parts-returns-in-Zoned-clause-added
add_parts-returns-in-Zoned-clause-added g c =
    zoned_added c.add_parts.result (subtree c.args.tree.now c.args.node) (tree_head c.args.tree.now c.args.node) _ (subtree c.args.tree.now c.in-Zoned.content) _ (tree_head c.args.tree.now c.in-Zoned.content).dtype (tree_head c.args.tree.now c.args.node).dtype c.args.start c.args.mask.now c.args.reads.now c.args.parts.now.items c.add_parts.new.parts.items c.in-Zoned.ensures.0.tree c.in-Zoned.ensures.0.sound.1.dtype c.add_parts.ensures.added

pub add_parts-returns-in-Zoned-clause-cause : goal.add_parts-returns-in-Zoned-clause-cause
add_parts-returns-in-Zoned-clause-cause g c =
    zoned_failed c.add_parts.result (subtree c.args.tree.now c.args.node) (tree_head c.args.tree.now c.args.node) _ (subtree c.args.tree.now c.in-Zoned.content) _ c.args.start (length c.args.mask.now) c.args.reads.now c.in-Zoned.ensures.0.tree c.add_parts.ensures.cause

pub node_column-node_column-requires : goal.node_column-node_column-requires
node_column-node_column-requires g c =
    let over = c.in-Zoned.ensures.0 in
    let later : IsLater c.args.tree.now c.args.node c.in-Zoned.content = All-head (IsLater c.args.tree.now c.args.node) c.in-Zoned.content (c.in-Zoned.zones ∷ []) over.later in
    let above = later.0 in
    let known = later.1 in
    let rows = over.sound.1.rows in
    let needs = zoned_needed (subtree c.args.tree.now c.args.node) (tree_head c.args.tree.now c.args.node) _ (subtree c.args.tree.now c.in-Zoned.content) _ c.args.start c.args.mask.now over.tree in
    (omega arith, (known, (c.requires.readable, (omega (arith, rows, c.requires.inside), subst (λ (ns : List ℕ). Begin ns (drop c.args.next.now c.args.reads.now)) needs c.requires.ready))))

pub node_column-returns-in-Zoned-clause-dtype : goal.node_column-returns-in-Zoned-clause-dtype
node_column-returns-in-Zoned-clause-dtype g c =
    zoned_dtype c.node_column.result (tree_head c.args.tree.now c.in-Zoned.content).dtype (tree_head c.args.tree.now c.args.node).dtype c.in-Zoned.ensures.0.sound.1.dtype c.node_column.ensures.dtype

pub node_column-returns-in-Zoned-clause-values : goal.node_column-returns-in-Zoned-clause-values
node_column-returns-in-Zoned-clause-values g c =
    zoned_values c.node_column.result (subtree c.args.tree.now c.args.node) (tree_head c.args.tree.now c.args.node) _ (subtree c.args.tree.now c.in-Zoned.content) _ c.args.start c.args.mask.now c.args.reads.now c.in-Zoned.ensures.0.tree c.node_column.ensures.values

pub node_column-returns-in-Zoned-clause-cause : goal.node_column-returns-in-Zoned-clause-cause
node_column-returns-in-Zoned-clause-cause g c =
    zoned_cause c.node_column.result (subtree c.args.tree.now c.args.node) (tree_head c.args.tree.now c.args.node) _ (subtree c.args.tree.now c.in-Zoned.content) _ c.args.start (length c.args.mask.now) c.args.reads.now c.in-Zoned.ensures.0.tree c.node_column.ensures.cause

pub field_columns-node_column-requires : goal.field_columns-node_column-requires
field_columns-node_column-requires g c =
    let nodes = c.args.tree.now in
    let field = get_or c.args.fields.now c.loop-field.field-index 0 in
    let lt : c.loop-field.field-index < length c.args.fields.now = c.loop-field-test.true in
    let at = chunk_there c.args.fields.now c.loop-field.field-index lt in
    let later : IsLater c.args.tree.now c.args.node (get_or c.args.fields.now c.loop-field.field-index 0) = c.requires.fields.later c.loop-field.field-index 0 lt in
    let above = later.0 in
    let known = later.1 in
    let rows = field_rows nodes (struct_members (tree_head nodes c.args.node).dtype) (tree_head nodes c.args.node).rows c.args.fields.now c.loop-field.field-index field c.requires.fields.sound.1 at in
    let needs = fields_left nodes c.args.fields.now c.loop-field.field-index field c.args.start c.args.mask.now at in
    let ready = begin_left (needed (subtree nodes field) c.args.start c.args.mask.now) _ _ (subst (λ (ns : List ℕ). Begin ns (drop c.loop-field.next c.args.reads.now)) needs c.loop-field.invariant.ready) in
    (omega arith, (known, (c.requires.readable, (omega (arith, rows, c.requires.inside), ready))))

pub field_columns-returns-in-Err-clause-cause : goal.field_columns-returns-in-Err-clause-cause
field_columns-returns-in-Err-clause-cause g c =
    let nodes = c.args.tree.now in
    let field = get_or c.args.fields.now c.loop-field.field-index 0 in
    let lt : c.loop-field.field-index < length c.args.fields.now = c.loop-field-test.true in
    let at = chunk_there c.args.fields.now c.loop-field.field-index lt in
    field_failed c.in-Err.error nodes (subtree nodes c.args.node) (tree_head nodes c.args.node) c.args.fields.now c.loop-field.field-index field c.args.start (length c.args.mask.now) c.args.reads.now c.requires.fields.tree c.requires.fields.sound at c.in-Err.ensures.cause

pub field_columns-loop-field-preserved : goal.field_columns-loop-field-preserved
field_columns-loop-field-preserved g c =
    let nodes = c.args.tree.now in
    let field = get_or c.args.fields.now c.loop-field.field-index 0 in
    let lt : c.loop-field.field-index < length c.args.fields.now = c.loop-field-test.true in
    let at = chunk_there c.args.fields.now c.loop-field.field-index lt in
    let now = needed (subtree nodes field) c.args.start c.args.mask.now in
    let rest = needed_of_each (trees_of nodes (drop (c.loop-field.field-index + 1) c.args.fields.now)) c.args.start c.args.mask.now in
    let needs = fields_left nodes c.args.fields.now c.loop-field.field-index field c.args.start c.args.mask.now at in
    let went = c.in-Ok.ensures.passed in
    record {
      ready = begin_next now rest c.args.reads.now c.loop-field.next c.node_column.new.next went (subst (λ (ns : List ℕ). Begin ns (drop c.loop-field.next c.args.reads.now)) needs c.loop-field.invariant.ready);
      passed = (let all_needed = ap length needs ∙ length-append now rest in omega (arith, went, all_needed, c.loop-field.invariant.passed));
      columns = columns_more c.args.reads.now nodes c.args.start c.args.mask.now c.args.fields.now c.loop-field.field-index field c.loop-field.columns.items c.push.new.self.items c.in-Ok.column at c.in_ok-push-in-Ok.ensures.items c.loop-field.invariant.columns (record { dtype = c.in-Ok.ensures.dtype; rows = c.in-Ok.ensures.rows; values = c.in-Ok.ensures.values });
    }

pub struct_column-structs-requires-clause-bare : goal.struct_column-structs-requires-clause-bare
struct_column-structs-requires-clause-bare g c = bare_struct _ (tree_head c.args.tree.now c.args.node) (trees_of c.args.tree.now c.args.fields.now) c.dtype_at.ensures c.requires.fields.sound

pub struct_column-structs-requires-clause-columns : goal.struct_column-structs-requires-clause-columns
struct_column-structs-requires-clause-columns g c = struct_parts_fit c.args.reads.now _ (tree_head c.args.tree.now c.args.node) (trees_of c.args.tree.now c.args.fields.now) c.args.start _ c.args.mask.now c.in-Ok.columns.items c.dtype_at.ensures c.true_count.ensures c.requires.fields.sound c.in-Ok.ensures.columns

pub struct_column-field_columns-requires : goal.struct_column-field_columns-requires
struct_column-field_columns-requires g c =
    let needs = struct_needed (subtree c.args.tree.now c.args.node) (tree_head c.args.tree.now c.args.node) (trees_of c.args.tree.now c.args.fields.now) c.args.start c.args.mask.now c.requires.fields.tree c.requires.fields.sound in
    (omega arith, (c.requires.known, (c.requires.readable, (c.requires.fields, (c.requires.inside, subst (λ (ns : List ℕ). Begin ns (drop c.args.next.now c.args.reads.now)) needs c.requires.ready)))))

pub struct_column-returns-in_ok-made-in-Ok-clause-rows : goal.struct_column-returns-in_ok-made-in-Ok-clause-rows
struct_column-returns-in_ok-made-in-Ok-clause-rows g c =
    struct_count c.in-Ok.columns.items _ c.true_count.result c.args.mask.now c.true_count.ensures c.in_ok-made-in-Ok.ensures.values

pub struct_column-returns-in_ok-made-in-Ok-clause-values : goal.struct_column-returns-in_ok-made-in-Ok-clause-values
struct_column-returns-in_ok-made-in-Ok-clause-values g c =
    struct_values c.args.reads.now (subtree c.args.tree.now c.args.node) (tree_head c.args.tree.now c.args.node) (trees_of c.args.tree.now c.args.fields.now) c.args.start c.true_count.result c.args.mask.now c.in-Ok.columns.items _ c.requires.fields.tree c.requires.fields.sound c.in-Ok.ensures.columns c.true_count.ensures c.in_ok-made-in-Ok.ensures.values

pub struct_column-returns-in_ok-made-in-Ok-clause-passed : goal.struct_column-returns-in_ok-made-in-Ok-clause-passed
struct_column-returns-in_ok-made-in-Ok-clause-passed g c =
    let needs = struct_needed (subtree c.args.tree.now c.args.node) (tree_head c.args.tree.now c.args.node) (trees_of c.args.tree.now c.args.fields.now) c.args.start c.args.mask.now c.requires.fields.tree c.requires.fields.sound in
    c.in-Ok.ensures.passed ∙ ap (λ (ns : List ℕ). c.args.next.now + length ns) (sym needs)

pub add_parts-returns-in-Chunks-clause-added : goal.add_parts-returns-in-Chunks-clause-added
add_parts-returns-in-Chunks-clause-added g c =
    chunks_added c.add_chunks.result (subtree c.args.tree.now c.args.node) (tree_head c.args.tree.now c.args.node) (trees_of c.args.tree.now c.in-Chunks.chunks.now) (tree_head c.args.tree.now c.args.node).dtype c.args.start c.args.mask.now c.args.reads.now c.args.parts.now.items c.add_chunks.new.parts.items c.in-Chunks.ensures.tree c.add_chunks.ensures.added

pub add_parts-returns-in-Chunks-clause-cause : goal.add_parts-returns-in-Chunks-clause-cause
add_parts-returns-in-Chunks-clause-cause g c =
    chunks_failed c.add_chunks.result (subtree c.args.tree.now c.args.node) (tree_head c.args.tree.now c.args.node) (trees_of c.args.tree.now c.in-Chunks.chunks.now) c.args.start (length c.args.mask.now) c.args.reads.now c.in-Chunks.ensures.tree c.add_chunks.ensures.cause
