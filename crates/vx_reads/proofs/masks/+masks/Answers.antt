use Rattle.std.proofs.Common.{◌≡◌, ℕ, ◌+◌, ◌-◌, ◌<◌, ◌≤◌, Bool, true, false, List, [], ◌∷◌, length, drop, get_or, sym, ap, ◌∙◌, subst, arith, rules}
use Rattle.std.specs.Prelude.{slice_range, IfOk}
use Rattle.std.proofs.lemmas.List.{drop_all, length-append, take_all}
use Rattle.std.proofs.lemmas.List.Elements.{All-head}
use Rattle.vx_base.specs.Data.{DataType}
use Rattle.vx_expr.specs.Bound.{IsBoundTo}
use Rattle.vx_layout.specs.Kept.{all}
use Rattle.vx_layout.specs.Rows.{derivation, derivation_in, rows_in}
use Rattle.vx_layout.specs.Shape.{IsLater}
use Rattle.vx_layout.specs.Trees.{subtree}
use Rattle.vx_reads.specs.Came.{Begin}
use Rattle.vx_reads.specs.MaskRows.{AreKeptBy, RangeFails}
use Rattle.vx_reads.specs.Needed.{needed_in, needed_of_range}
use Rattle.vx_reads.specs.Readable.{tree_head, trees_of}
use Rattle.vx_picking.specs.Rows.{selects_some}
use Rattle.vx_reads.proofs.ByKind.{alike_here, alike_left, chunk_dtype, chunk_there, fits_left, zoned_needed}
use Rattle.vx_reads.proofs.Chunking.{begin_left, begin_next, left_needed}
use Rattle.vx_reads.proofs.MaskFilters.{keeps_then, left_fault}
use Rattle.vx_reads.proofs.MaskKinds.{chunks_fail, chunks_keep, empty_none, kept_none, leaf_fails, leaf_keeps, range_cause, range_failed, struct_fails, zoned_fails, zoned_keeps}
use Rattle.vx_reads.proofs.Ranges.{IsHere}
use Rattle.vx_reads.proofs.masks.+masks.Goals as goal

pub mask_of-returns-then-len-eq0-clause-kept : goal.mask_of-returns-then-len-eq0-clause-kept
mask_of-returns-then-len-eq0-clause-kept g c =
    kept_none c.args.reads.now (derivation (subtree c.args.tree.now c.args.node) all) (tree_head c.args.tree.now c.args.node).dtype c.args.expression.now.term c.args.start c.args.mask.now _ c.in_ok-copy-in-Leaf.ensures (empty_none c.args.mask.now (omega (arith, c.len.ensures, c.if-len-eq0.true)))

pub mask_of-returns-else-len-eq0-clause-kept : goal.mask_of-returns-else-len-eq0-clause-kept
mask_of-returns-else-len-eq0-clause-kept g c =
    leaf_keeps c.leaf_mask.result (subtree c.args.tree.now c.args.node) (tree_head c.args.tree.now c.args.node) c.in-Leaf.segment c.in-Leaf.coding c.args.expression.now.term c.args.start c.args.next.now c.args.mask.now c.take_bytes-bytes.result.now c.args.reads.now c.in-Leaf.ensures.tree (omega (arith, c.len.ensures, c.if-len-eq0.false)) c.take_bytes-bytes.ensures.bytes c.requires.ready c.leaf_mask.ensures.kept

pub mask_of-returns-else-len-eq0-clause-cause : goal.mask_of-returns-else-len-eq0-clause-cause
mask_of-returns-else-len-eq0-clause-cause g c =
    leaf_fails c.leaf_mask.result (subtree c.args.tree.now c.args.node) (tree_head c.args.tree.now c.args.node) c.in-Leaf.segment c.in-Leaf.coding c.args.expression.now.term c.args.start c.args.first c.args.next.now c.args.mask.now c.take_bytes-bytes.result.now c.args.reads.now c.in-Leaf.ensures.tree (omega (arith, c.len.ensures, c.if-len-eq0.false)) c.take_bytes-bytes.ensures.bytes c.requires.ready c.leaf_mask.ensures.cause

pub mask_of-returns-in-Chunks-clause-kept : goal.mask_of-returns-in-Chunks-clause-kept
mask_of-returns-in-Chunks-clause-kept g c =
    chunks_keep c.chunks_mask.result (subtree c.args.tree.now c.args.node) (tree_head c.args.tree.now c.args.node) _ (tree_head c.args.tree.now c.args.node).dtype c.args.expression.now.term c.args.start c.args.mask.now c.args.reads.now c.in-Chunks.ensures.tree c.chunks_mask.ensures.kept

pub mask_of-returns-in-Chunks-clause-cause : goal.mask_of-returns-in-Chunks-clause-cause
mask_of-returns-in-Chunks-clause-cause g c =
    chunks_fail c.chunks_mask.result (subtree c.args.tree.now c.args.node) (tree_head c.args.tree.now c.args.node) _ (tree_head c.args.tree.now c.args.node).dtype c.args.expression.now.term c.args.start c.args.first c.args.mask.now c.args.reads.now c.in-Chunks.ensures.tree c.chunks_mask.ensures.cause

pub chunks_mask-range_mask-requires : goal.chunks_mask-range_mask-requires
chunks_mask-range_mask-requires g c =
    let nodes = c.args.tree.now in
    let chunk = get_or c.args.chunks.now c.loop-chunk.chunk-index 0 in
    let lt : c.loop-chunk.chunk-index < length c.args.chunks.now = c.loop-chunk-test.true in
    let at = chunk_there c.args.chunks.now c.loop-chunk.chunk-index lt in
    let rows : c.rows_at-rows.result ≡ (tree_head c.args.tree.now (get_or c.args.chunks.now c.loop-chunk.chunk-index 0)).rows = c.rows_at-rows.ensures in
    let done_is : c.rows_here-here.result.start ≡ c.loop-chunk.done = c.rows_here-here.ensures.start in
    let here : IsHere c.args.mask.now c.loop-chunk.done c.rows_here-here.result.end ((tree_head c.args.tree.now (get_or c.args.chunks.now c.loop-chunk.chunk-index 0)).rows - c.loop-chunk.row) = record {
      forwards = (let h = c.rows_here-here.ensures.forwards in omega arith);
      inside = (let h = c.rows_here-here.ensures.inside in let e = c.len.ensures in omega arith);
      most = (let h = c.rows_here-here.ensures.end in omega arith);
      whole = λ less. (let e = c.len.ensures in let h = c.rows_here-here.ensures.whole (omega arith) in omega arith);
    } in
    let later : IsLater c.args.tree.now c.args.node (get_or c.args.chunks.now c.loop-chunk.chunk-index 0) = c.requires.chunked.later c.loop-chunk.chunk-index 0 lt in
    let above = later.0 in
    let known = later.1 in
    let most = here.most in
    let typed = chunk_dtype c.args.tree.now (tree_head c.args.tree.now c.args.node).dtype c.args.chunks.now c.loop-chunk.chunk-index (get_or c.args.chunks.now c.loop-chunk.chunk-index 0) c.requires.chunked.sound.0 at in
    let bound = subst (IsBoundTo c.args.expression.now) (sym typed) c.requires.bound in
    let needs = left_needed c.args.tree.now c.args.chunks.now c.loop-chunk.chunk-index chunk c.loop-chunk.row c.args.mask.now c.loop-chunk.done c.rows_here-here.result.end at here in
    let ready = begin_left (needed_of_range (subtree nodes chunk) c.loop-chunk.row (slice_range c.args.mask.now c.loop-chunk.done c.rows_here-here.result.end)) _ _ (subst (λ (ns : List ℕ). Begin ns (drop c.loop-chunk.next c.args.reads.now)) needs c.loop-chunk.invariant.ready) in
    (omega arith, (known, (c.requires.readable, (c.rows_here-here.ensures.forwards, (omega (arith, c.rows_here-here.ensures.inside, c.len.ensures), (λ less. omega arith, (omega (arith, c.requires.few, here.inside, here.forwards), (bound, (c.requires.bool, rw done_is ready)))))))))

pub chunks_mask-returns-in-Err-clause-cause : goal.chunks_mask-returns-in-Err-clause-cause
chunks_mask-returns-in-Err-clause-cause g c =
    let nodes = c.args.tree.now in
    let chunk = get_or c.args.chunks.now c.loop-chunk.chunk-index 0 in
    let lt : c.loop-chunk.chunk-index < length c.args.chunks.now = c.loop-chunk-test.true in
    let at = chunk_there c.args.chunks.now c.loop-chunk.chunk-index lt in
    let rows : c.rows_at-rows.result ≡ (tree_head c.args.tree.now (get_or c.args.chunks.now c.loop-chunk.chunk-index 0)).rows = c.rows_at-rows.ensures in
    let done_is : c.rows_here-here.result.start ≡ c.loop-chunk.done = c.rows_here-here.ensures.start in
    let here : IsHere c.args.mask.now c.loop-chunk.done c.rows_here-here.result.end ((tree_head c.args.tree.now (get_or c.args.chunks.now c.loop-chunk.chunk-index 0)).rows - c.loop-chunk.row) = record {
      forwards = (let h = c.rows_here-here.ensures.forwards in omega arith);
      inside = (let h = c.rows_here-here.ensures.inside in let e = c.len.ensures in omega arith);
      most = (let h = c.rows_here-here.ensures.end in omega arith);
      whole = λ less. (let e = c.len.ensures in let h = c.rows_here-here.ensures.whole (omega arith) in omega arith);
    } in
    let typed = chunk_dtype c.args.tree.now (tree_head c.args.tree.now c.args.node).dtype c.args.chunks.now c.loop-chunk.chunk-index (get_or c.args.chunks.now c.loop-chunk.chunk-index 0) c.requires.chunked.sound.0 at in
    let F : ℕ → Type 0 = λ from. RangeFails c.args.reads.now (subtree c.args.tree.now (get_or c.args.chunks.now c.loop-chunk.chunk-index 0)) (tree_head c.args.tree.now (get_or c.args.chunks.now c.loop-chunk.chunk-index 0)).dtype c.args.expression.now.term c.loop-chunk.row (c.args.first + c.loop-chunk.done) (slice_range c.args.mask.now from c.rows_here-here.result.end) c.in-Err.error in
    let G : DataType → Type 0 = λ t. RangeFails c.args.reads.now (subtree c.args.tree.now (get_or c.args.chunks.now c.loop-chunk.chunk-index 0)) t c.args.expression.now.term c.loop-chunk.row (c.args.first + c.loop-chunk.done) (slice_range c.args.mask.now c.loop-chunk.done c.rows_here-here.result.end) c.in-Err.error in
    range_failed c.in-Err.error c.args.reads.now nodes c.args.chunks.now c.loop-chunk.chunk-index chunk c.args.start c.loop-chunk.row c.args.first c.loop-chunk.done c.rows_here-here.result.end c.args.mask.now (tree_head nodes c.args.node).dtype c.args.expression.now.term at here c.loop-chunk.invariant.alike c.loop-chunk.invariant.up
    (subst G typed (subst F done_is c.in-Err.ensures.cause))

pub chunks_mask-loop-chunk-preserved : goal.chunks_mask-loop-chunk-preserved
chunks_mask-loop-chunk-preserved g c =
    let nodes = c.args.tree.now in
    let chunk = get_or c.args.chunks.now c.loop-chunk.chunk-index 0 in
    let lt : c.loop-chunk.chunk-index < length c.args.chunks.now = c.loop-chunk-test.true in
    let at = chunk_there c.args.chunks.now c.loop-chunk.chunk-index lt in
    let rows : c.rows_at-rows.result ≡ (tree_head c.args.tree.now (get_or c.args.chunks.now c.loop-chunk.chunk-index 0)).rows = c.rows_at-rows.ensures in
    let done_is : c.rows_here-here.result.start ≡ c.loop-chunk.done = c.rows_here-here.ensures.start in
    let here : IsHere c.args.mask.now c.loop-chunk.done c.rows_here-here.result.end ((tree_head c.args.tree.now (get_or c.args.chunks.now c.loop-chunk.chunk-index 0)).rows - c.loop-chunk.row) = record {
      forwards = (let h = c.rows_here-here.ensures.forwards in omega arith);
      inside = (let h = c.rows_here-here.ensures.inside in let e = c.len.ensures in omega arith);
      most = (let h = c.rows_here-here.ensures.end in omega arith);
      whole = λ less. (let e = c.len.ensures in let h = c.rows_here-here.ensures.whole (omega arith) in omega arith);
    } in
    let t = (tree_head c.args.tree.now c.args.node).dtype in
    let e = c.args.expression.now.term in
    let r = derivation_in (trees_of nodes c.args.chunks.now) all in
    let r2 = derivation (subtree nodes chunk) all in
    let row_is : c.saturating_sub-row.result ≡ c.loop-chunk.row - (tree_head c.args.tree.now (get_or c.args.chunks.now c.loop-chunk.chunk-index 0)).rows = c.saturating_sub-row.ensures ∙ ap (λ (k : ℕ). c.loop-chunk.row - k) rows in
    let needs = left_needed nodes c.args.chunks.now c.loop-chunk.chunk-index chunk c.loop-chunk.row c.args.mask.now c.loop-chunk.done c.rows_here-here.result.end at here in
    let now = needed_of_range (subtree nodes chunk) c.loop-chunk.row (slice_range c.args.mask.now c.loop-chunk.done c.rows_here-here.result.end) in
    let rest = needed_in (trees_of nodes (drop (c.loop-chunk.chunk-index + 1) c.args.chunks.now)) (c.loop-chunk.row - (tree_head nodes chunk).rows) (drop c.rows_here-here.result.end c.args.mask.now) in
    let typed = chunk_dtype c.args.tree.now (tree_head c.args.tree.now c.args.node).dtype c.args.chunks.now c.loop-chunk.chunk-index (get_or c.args.chunks.now c.loop-chunk.chunk-index 0) c.requires.chunked.sound.0 at in
    let went : c.range_mask.new.next ≡ c.loop-chunk.next + length (needed_of_range (subtree c.args.tree.now (get_or c.args.chunks.now c.loop-chunk.chunk-index 0)) c.loop-chunk.row (slice_range c.args.mask.now c.loop-chunk.done c.rows_here-here.result.end)) = rw done_is at c.in-Ok.ensures.passed in
    let more_rows : length c.in-Ok.more ≡ c.rows_here-here.result.end - c.loop-chunk.done = rw done_is at c.in-Ok.ensures.rows in
    let joined = c.in_ok-kept-in-Ok.ensures in
    record {
      inside = here.inside;
      fits = rw row_is (fits_left nodes c.args.chunks.now c.loop-chunk.chunk-index chunk c.loop-chunk.row c.loop-chunk.done c.rows_here-here.result.end c.args.mask.now at here c.loop-chunk.invariant.fits);
      alike = rw row_is (alike_left nodes c.args.chunks.now c.loop-chunk.chunk-index chunk c.args.start c.loop-chunk.row c.loop-chunk.done c.rows_here-here.result.end c.args.mask.now at here c.loop-chunk.invariant.alike);
      ready = rw row_is (begin_next now rest c.args.reads.now c.loop-chunk.next c.range_mask.new.next went (subst (λ (ns : List ℕ). Begin ns (drop c.loop-chunk.next c.args.reads.now)) needs c.loop-chunk.invariant.ready));
      passed = rw row_is (let all_needed = ap length needs ∙ length-append now rest in omega (arith, went, all_needed, c.loop-chunk.invariant.passed));
      rows = (let long = ap length joined ∙ length-append c.loop-chunk.kept c.in-Ok.more in let f = here.forwards in omega (arith, long, more_rows, c.loop-chunk.invariant.rows));
      kept = keeps_then c.args.reads.now r r2 t e c.args.start c.loop-chunk.row c.loop-chunk.done c.rows_here-here.result.end c.args.mask.now c.loop-chunk.kept c.in-Ok.more _ here.forwards here.inside
          (alike_here nodes c.args.chunks.now c.loop-chunk.chunk-index chunk c.args.start c.loop-chunk.row c.loop-chunk.done c.rows_here-here.result.end c.args.mask.now at here c.loop-chunk.invariant.alike)
          joined c.loop-chunk.invariant.kept (subst (λ (t : DataType). AreKeptBy c.args.reads.now r2 t e c.loop-chunk.row (slice_range c.args.mask.now c.loop-chunk.done c.rows_here-here.result.end) c.in-Ok.more) typed (rw done_is at c.in-Ok.ensures.kept));
      up = rw row_is (λ bytes number fault. c.loop-chunk.invariant.up bytes number (left_fault nodes c.args.chunks.now c.loop-chunk.chunk-index chunk c.loop-chunk.row c.args.first c.loop-chunk.done c.rows_here-here.result.end c.args.mask.now bytes t e number at here fault));
    }

pub chunks_mask-returns-clause-kept : goal.chunks_mask-returns-clause-kept
chunks_mask-returns-clause-kept g c =
    let nodes = c.args.tree.now in
    let none : drop c.loop-chunk.chunk-index c.args.chunks.now ≡ [] = drop_all c.loop-chunk.chunk-index c.args.chunks.now c.loop-chunk-test.false in
    let fits : c.loop-chunk.row + (length c.args.mask.now - c.loop-chunk.done) ≤ 0 = subst (λ (ns : List ℕ). c.loop-chunk.row + (length c.args.mask.now - c.loop-chunk.done) ≤ rows_in (trees_of nodes ns)) none c.loop-chunk.invariant.fits in
    subst (λ (bits : List Bool). AreKeptBy c.args.reads.now (derivation_in (trees_of nodes c.args.chunks.now) all) (tree_head nodes c.args.node).dtype c.args.expression.now.term c.args.start bits c.loop-chunk.kept) (take_all c.loop-chunk.done c.args.mask.now (omega arith)) c.loop-chunk.invariant.kept

pub range_mask-returns-then-not-selects_some-clause-kept : goal.range_mask-returns-then-not-selects_some-clause-kept
range_mask-returns-then-not-selects_some-clause-kept g c =
    let none : selects_some (slice_range c.args.mask.now c.args.range.start c.args.range.end) ≡ false = ap selects_some (sym c.in_ok-some.ensures) ∙ sym c.selects_some.ensures ∙ (search rules) in
    kept_none c.args.reads.now (derivation (subtree c.args.tree.now c.args.node) all) (tree_head c.args.tree.now c.args.node).dtype c.args.expression.now.term c.args.start (slice_range c.args.mask.now c.args.range.start c.args.range.end) _ c.in_ok-some.ensures none

pub range_mask-returns-clause-kept : goal.range_mask-returns-clause-kept
range_mask-returns-clause-kept g c =
    let F : List Bool → Type 0 = λ bits. IfOk c.mask_of.result (AreKeptBy c.args.reads.now (derivation (subtree c.args.tree.now c.args.node) all) (tree_head c.args.tree.now c.args.node).dtype c.args.expression.now.term c.args.start bits) in
    subst F c.in_ok-some.ensures c.mask_of.ensures.kept

pub range_mask-returns-clause-cause : goal.range_mask-returns-clause-cause
range_mask-returns-clause-cause g c =
    let some : selects_some c.in_ok-some.some ≡ true = sym c.selects_some.ensures ∙ c.if-not-selects_some.false in
    range_cause c.mask_of.result c.args.reads.now (subtree c.args.tree.now c.args.node) (tree_head c.args.tree.now c.args.node).dtype c.args.expression.now.term c.args.start c.args.first c.in_ok-some.some (slice_range c.args.mask.now c.args.range.start c.args.range.end) c.in_ok-some.ensures some c.mask_of.ensures.cause

pub mask_of-mask_of-requires : goal.mask_of-mask_of-requires
mask_of-mask_of-requires g c =
    let over = c.in-Zoned.ensures.0 in
    let later : IsLater c.args.tree.now c.args.node c.in-Zoned.content = All-head (IsLater c.args.tree.now c.args.node) c.in-Zoned.content (c.in-Zoned.zones ∷ []) over.later in
    let above = later.0 in
    let known = later.1 in
    let rows = over.sound.1.rows in
    let bound = subst (IsBoundTo c.args.expression.now) (sym over.sound.1.dtype) c.requires.bound in
    let needs = zoned_needed (subtree c.args.tree.now c.args.node) (tree_head c.args.tree.now c.args.node) _ (subtree c.args.tree.now c.in-Zoned.content) _ c.args.start c.args.mask.now over.tree in
    let ready = subst (λ (ns : List ℕ). Begin ns (drop c.args.next.now c.args.reads.now)) needs c.requires.ready in
    (omega arith, (known, (c.requires.readable, (omega (arith, rows, c.requires.inside), (c.requires.few, (bound, (c.requires.bool, ready)))))))

pub mask_of-returns-in-Zoned-clause-kept : goal.mask_of-returns-in-Zoned-clause-kept
mask_of-returns-in-Zoned-clause-kept g c =
    zoned_keeps c.mask_of.result (subtree c.args.tree.now c.args.node) (tree_head c.args.tree.now c.args.node) _ (subtree c.args.tree.now c.in-Zoned.content) _ (tree_head c.args.tree.now c.args.node).dtype c.args.expression.now.term c.args.start c.args.mask.now c.args.reads.now c.in-Zoned.ensures.0.tree c.in-Zoned.ensures.0.sound.1.dtype c.mask_of.ensures.kept

pub mask_of-returns-in-Zoned-clause-cause : goal.mask_of-returns-in-Zoned-clause-cause
mask_of-returns-in-Zoned-clause-cause g c =
    zoned_fails c.mask_of.result (subtree c.args.tree.now c.args.node) (tree_head c.args.tree.now c.args.node) _ (subtree c.args.tree.now c.in-Zoned.content) _ (tree_head c.args.tree.now c.args.node).dtype c.args.expression.now.term c.args.start c.args.first c.args.mask.now c.args.reads.now c.in-Zoned.ensures.0.tree c.in-Zoned.ensures.0.sound.1.dtype c.mask_of.ensures.cause

pub mask_of-returns-in-Struct-clause-cause : goal.mask_of-returns-in-Struct-clause-cause
mask_of-returns-in-Struct-clause-cause g c =
    struct_fails c.looked_mask.result (subtree c.args.tree.now c.args.node) (tree_head c.args.tree.now c.args.node) _ _ (tree_head c.args.tree.now c.args.node).dtype c.args.expression.now.term c.args.start c.args.first c.args.mask.now c.args.reads.now c.in-Struct.ensures.tree c.looked_mask.ensures.cause
