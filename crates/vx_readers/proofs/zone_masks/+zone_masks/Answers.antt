use Rattle.std.proofs.Common.{◌≡◌, ℕ, ◌+◌, ◌-◌, ◌<◌, ◌≤◌, Bool, true, false, List, [], length, drop, replicate, get_or, sym, ap, ◌∙◌, subst, arith, rules}
use Rattle.std.specs.Prelude.{slice_range}
use Rattle.std.proofs.lemmas.List.{drop_all, length-append, take_all}
use Rattle.vx_expr.specs.Bound.{IsBoundTo}
use Rattle.vx_layout.specs.Rows.{rows_in}
use Rattle.vx_layout.specs.Shape.{IsLater}
use Rattle.vx_layout.specs.Trees.{subtree, Tree}
use Rattle.vx_picking.specs.Rows.{selects_some}
use Rattle.vx_reads.specs.Came.{Begin}
use Rattle.vx_reads.specs.Needed.{needed}
use Rattle.vx_reads.specs.Readable.{tree_head, trees_of}
use Rattle.vx_reads.proofs.ByKind.{chunk_dtype, chunk_there, fits_left}
use Rattle.vx_reads.proofs.Chunking.{begin_left, begin_next}
use Rattle.vx_reads.proofs.Ranges.{IsHere}
use Rattle.vx_readers.specs.Unpruned.{AreUnprunedBy, PruningFails}
use Rattle.vx_readers.specs.ZonesNeeded.{zones_needed, zones_needed_in, zones_needed_of_range}
use Rattle.vx_readers.specs.ZoneTables.{ArePrunedBy}
use Rattle.vx_readers.specs.ZonesOver.{zone_over, zones_over, zones_over_in}
use Rattle.vx_rows.specs.Zones.{zones_of}
use Rattle.vx_readers.proofs.PruningFaults.{content_fails, range_fails, table_fails}
use Rattle.vx_readers.proofs.Unpruning.{chunks_lost, chunks_unpruned, unpruned_bare, unpruned_none, unpruned_then, without_count, zoned_unpruned}
use Rattle.vx_readers.proofs.ZonesAlike.{zoned_needed, zones_here, zones_left, zones_needed_left}
use Rattle.vx_readers.proofs.zone_masks.+zone_masks.Goals as goal

pub unpruned_of_chunks-unpruned_of_range-requires : goal.unpruned_of_chunks-unpruned_of_range-requires
unpruned_of_chunks-unpruned_of_range-requires g c =
    let nodes = c.args.tree.now in
    let chunk = get_or c.args.chunks.now c.loop-chunk.chunk-index 0 in
    let lt : c.loop-chunk.chunk-index < length c.args.chunks.now = c.loop-chunk-test.true in
    let at = chunk_there c.args.chunks.now c.loop-chunk.chunk-index lt in
    let rows : c.rows_at-rows.result ≡ (tree_head c.args.tree.now (get_or c.args.chunks.now c.loop-chunk.chunk-index 0)).rows = c.rows_at-rows.ensures in
    let done_is : c.rows_here-here.result.start ≡ c.loop-chunk.done = c.rows_here-here.ensures.start in
    let here : IsHere c.args.mask.now c.loop-chunk.done c.rows_here-here.result.end ((tree_head c.args.tree.now (get_or c.args.chunks.now c.loop-chunk.chunk-index 0)).rows - c.loop-chunk.row) = record {
      forwards = (let h = c.rows_here-here.ensures.forwards in omega arith);
      inside = (let h = c.rows_here-here.ensures.inside in let e = c.len.ensures in omega arith);
      most = (let h = c.rows_here-here.ensures.end in omega arith);
      whole = λ less. (let e = c.len.ensures in let h = c.rows_here-here.ensures.whole (omega arith) in omega arith);
    } in
    let later : IsLater c.args.tree.now c.args.node (get_or c.args.chunks.now c.loop-chunk.chunk-index 0) = c.requires.chunked.later c.loop-chunk.chunk-index 0 lt in
    let above = later.0 in
    let known = later.1 in
    let most = here.most in
    let typed = chunk_dtype c.args.tree.now (tree_head c.args.tree.now c.args.node).dtype c.args.chunks.now c.loop-chunk.chunk-index (get_or c.args.chunks.now c.loop-chunk.chunk-index 0) c.requires.chunked.sound.0 at in
    let bound = subst (IsBoundTo c.args.proof.now) (sym typed) c.requires.bound in
    let needs = zones_needed_left c.args.tree.now c.args.chunks.now c.loop-chunk.chunk-index chunk c.loop-chunk.row c.args.mask.now c.loop-chunk.done c.rows_here-here.result.end at here in
    let ready = begin_left (zones_needed_of_range (subtree nodes chunk) c.loop-chunk.row (slice_range c.args.mask.now c.loop-chunk.done c.rows_here-here.result.end)) _ _ (subst (λ (ns : List ℕ). Begin ns (drop c.loop-chunk.next c.args.reads.now)) needs c.loop-chunk.invariant.ready) in
    (omega arith, (known, (c.requires.readable, (c.rows_here-here.ensures.forwards, (omega (arith, c.rows_here-here.ensures.inside, c.len.ensures), (λ less. omega arith, (bound, rw done_is ready)))))))

pub unpruned_of_chunks-returns-in-Err-clause-cause : goal.unpruned_of_chunks-returns-in-Err-clause-cause
unpruned_of_chunks-returns-in-Err-clause-cause g c =
    let nodes = c.args.tree.now in
    let chunk = get_or c.args.chunks.now c.loop-chunk.chunk-index 0 in
    let lt : c.loop-chunk.chunk-index < length c.args.chunks.now = c.loop-chunk-test.true in
    let at = chunk_there c.args.chunks.now c.loop-chunk.chunk-index lt in
    let rows : c.rows_at-rows.result ≡ (tree_head c.args.tree.now (get_or c.args.chunks.now c.loop-chunk.chunk-index 0)).rows = c.rows_at-rows.ensures in
    let done_is : c.rows_here-here.result.start ≡ c.loop-chunk.done = c.rows_here-here.ensures.start in
    let here : IsHere c.args.mask.now c.loop-chunk.done c.rows_here-here.result.end ((tree_head c.args.tree.now (get_or c.args.chunks.now c.loop-chunk.chunk-index 0)).rows - c.loop-chunk.row) = record {
      forwards = (let h = c.rows_here-here.ensures.forwards in omega arith);
      inside = (let h = c.rows_here-here.ensures.inside in let e = c.len.ensures in omega arith);
      most = (let h = c.rows_here-here.ensures.end in omega arith);
      whole = λ less. (let e = c.len.ensures in let h = c.rows_here-here.ensures.whole (omega arith) in omega arith);
    } in
    let F : ℕ → Type 0 = λ from. PruningFails c.args.reads.now (zones_over (subtree c.args.tree.now (get_or c.args.chunks.now c.loop-chunk.chunk-index 0))) c.loop-chunk.row (slice_range c.args.mask.now from c.rows_here-here.result.end) c.in-Err.error in
    range_fails c.in-Err.error c.args.reads.now (zones_over_in (trees_of nodes c.args.chunks.now)) (zones_over (subtree nodes chunk)) c.args.start c.loop-chunk.row c.loop-chunk.done c.rows_here-here.result.end c.args.mask.now
    (zones_here nodes c.args.chunks.now c.loop-chunk.chunk-index chunk c.args.start c.loop-chunk.row c.loop-chunk.done c.rows_here-here.result.end c.args.mask.now at here c.loop-chunk.invariant.alike)
    (subst F done_is c.in-Err.ensures.cause)

pub unpruned_of_chunks-loop-chunk-preserved : goal.unpruned_of_chunks-loop-chunk-preserved
unpruned_of_chunks-loop-chunk-preserved g c =
    let nodes = c.args.tree.now in
    let chunk = get_or c.args.chunks.now c.loop-chunk.chunk-index 0 in
    let lt : c.loop-chunk.chunk-index < length c.args.chunks.now = c.loop-chunk-test.true in
    let at = chunk_there c.args.chunks.now c.loop-chunk.chunk-index lt in
    let rows : c.rows_at-rows.result ≡ (tree_head c.args.tree.now (get_or c.args.chunks.now c.loop-chunk.chunk-index 0)).rows = c.rows_at-rows.ensures in
    let done_is : c.rows_here-here.result.start ≡ c.loop-chunk.done = c.rows_here-here.ensures.start in
    let here : IsHere c.args.mask.now c.loop-chunk.done c.rows_here-here.result.end ((tree_head c.args.tree.now (get_or c.args.chunks.now c.loop-chunk.chunk-index 0)).rows - c.loop-chunk.row) = record {
      forwards = (let h = c.rows_here-here.ensures.forwards in omega arith);
      inside = (let h = c.rows_here-here.ensures.inside in let e = c.len.ensures in omega arith);
      most = (let h = c.rows_here-here.ensures.end in omega arith);
      whole = λ less. (let e = c.len.ensures in let h = c.rows_here-here.ensures.whole (omega arith) in omega arith);
    } in
    let e = c.args.proof.now.term in
    let zones = zones_over_in (trees_of nodes c.args.chunks.now) in
    let zones2 = zones_over (subtree nodes chunk) in
    let row_is : c.saturating_sub-row.result ≡ c.loop-chunk.row - (tree_head c.args.tree.now (get_or c.args.chunks.now c.loop-chunk.chunk-index 0)).rows = c.saturating_sub-row.ensures ∙ ap (λ (k : ℕ). c.loop-chunk.row - k) rows in
    let needs = zones_needed_left nodes c.args.chunks.now c.loop-chunk.chunk-index chunk c.loop-chunk.row c.args.mask.now c.loop-chunk.done c.rows_here-here.result.end at here in
    let now = zones_needed_of_range (subtree nodes chunk) c.loop-chunk.row (slice_range c.args.mask.now c.loop-chunk.done c.rows_here-here.result.end) in
    let rest = zones_needed_in (trees_of nodes (drop (c.loop-chunk.chunk-index + 1) c.args.chunks.now)) (c.loop-chunk.row - (tree_head nodes chunk).rows) (drop c.rows_here-here.result.end c.args.mask.now) in
    let went : c.unpruned_of_range.new.next ≡ c.loop-chunk.next + length (zones_needed_of_range (subtree c.args.tree.now (get_or c.args.chunks.now c.loop-chunk.chunk-index 0)) c.loop-chunk.row (slice_range c.args.mask.now c.loop-chunk.done c.rows_here-here.result.end)) = rw done_is at c.in-Ok.ensures.passed in
    let more_rows : length c.in-Ok.more ≡ c.rows_here-here.result.end - c.loop-chunk.done = rw done_is at c.in-Ok.ensures.rows in
    let joined = c.in_ok-kept-in-Ok.ensures in
    record {
      inside = here.inside;
      fits = rw row_is (fits_left nodes c.args.chunks.now c.loop-chunk.chunk-index chunk c.loop-chunk.row c.loop-chunk.done c.rows_here-here.result.end c.args.mask.now at here c.loop-chunk.invariant.fits);
      alike = rw row_is (zones_left nodes c.args.chunks.now c.loop-chunk.chunk-index chunk c.args.start c.loop-chunk.row c.loop-chunk.done c.rows_here-here.result.end c.args.mask.now at here c.loop-chunk.invariant.alike);
      ready = rw row_is (begin_next now rest c.args.reads.now c.loop-chunk.next c.unpruned_of_range.new.next went (subst (λ (ns : List ℕ). Begin ns (drop c.loop-chunk.next c.args.reads.now)) needs c.loop-chunk.invariant.ready));
      passed = rw row_is (let all_needed = ap length needs ∙ length-append now rest in omega (arith, went, all_needed, c.loop-chunk.invariant.passed));
      rows = (let long = ap length joined ∙ length-append c.loop-chunk.kept c.in-Ok.more in let f = here.forwards in omega (arith, long, more_rows, c.loop-chunk.invariant.rows));
      kept = unpruned_then c.args.reads.now zones zones2 e c.args.start c.loop-chunk.row c.loop-chunk.done c.rows_here-here.result.end c.args.mask.now c.loop-chunk.kept c.in-Ok.more _ here.forwards here.inside
          (zones_here nodes c.args.chunks.now c.loop-chunk.chunk-index chunk c.args.start c.loop-chunk.row c.loop-chunk.done c.rows_here-here.result.end c.args.mask.now at here c.loop-chunk.invariant.alike)
          joined c.loop-chunk.invariant.kept (rw done_is at c.in-Ok.ensures.kept);
    }

pub unpruned_of_chunks-returns-clause-kept : goal.unpruned_of_chunks-returns-clause-kept
unpruned_of_chunks-returns-clause-kept g c =
    let nodes = c.args.tree.now in
    let none : drop c.loop-chunk.chunk-index c.args.chunks.now ≡ [] = drop_all c.loop-chunk.chunk-index c.args.chunks.now c.loop-chunk-test.false in
    let fits : c.loop-chunk.row + (length c.args.mask.now - c.loop-chunk.done) ≤ 0 = subst (λ (ns : List ℕ). c.loop-chunk.row + (length c.args.mask.now - c.loop-chunk.done) ≤ rows_in (trees_of nodes ns)) none c.loop-chunk.invariant.fits in
    subst (λ (bits : List Bool). AreUnprunedBy c.args.reads.now (zones_over_in (trees_of nodes c.args.chunks.now)) c.args.proof.now.term c.args.start bits c.loop-chunk.kept) (take_all c.loop-chunk.done c.args.mask.now (omega arith)) c.loop-chunk.invariant.kept

pub unpruned_of_range-returns-then-not-selects_some-clause-kept : goal.unpruned_of_range-returns-then-not-selects_some-clause-kept
unpruned_of_range-returns-then-not-selects_some-clause-kept g c =
    let none : selects_some (slice_range c.args.mask.now c.args.range.start c.args.range.end) ≡ false = ap selects_some (sym c.in_ok-some.ensures) ∙ sym c.selects_some.ensures ∙ (search rules) in
    unpruned_none c.args.reads.now (zones_over (subtree c.args.tree.now c.args.node)) c.args.proof.now.term c.args.start (slice_range c.args.mask.now c.args.range.start c.args.range.end) _ c.in_ok-some.ensures none

pub unpruned_of-returns-in_ok-copy-in-Leaf-clause-kept : goal.unpruned_of-returns-in_ok-copy-in-Leaf-clause-kept
unpruned_of-returns-in_ok-copy-in-Leaf-clause-kept g c =
    unpruned_bare c.args.reads.now (zones_over (subtree c.args.tree.now c.args.node)) c.args.proof.now.term c.args.start c.args.mask.now c.in_ok-copy-in-Leaf.field-0 c.in_ok-copy-in-Leaf.ensures (λ row. ap (λ (t : Tree). zones_over t row) c.in-Leaf.ensures.tree)

pub unpruned_of-returns-in_ok-copy-in-Dict-clause-kept : goal.unpruned_of-returns-in_ok-copy-in-Dict-clause-kept
unpruned_of-returns-in_ok-copy-in-Dict-clause-kept g c =
    unpruned_bare c.args.reads.now (zones_over (subtree c.args.tree.now c.args.node)) c.args.proof.now.term c.args.start c.args.mask.now c.in_ok-copy-in-Dict.field-0 c.in_ok-copy-in-Dict.ensures (λ row. ap (λ (t : Tree). zones_over t row) c.in-Dict.ensures.tree)

pub unpruned_of-returns-in_ok-copy-in-Struct-clause-kept : goal.unpruned_of-returns-in_ok-copy-in-Struct-clause-kept
unpruned_of-returns-in_ok-copy-in-Struct-clause-kept g c =
    unpruned_bare c.args.reads.now (zones_over (subtree c.args.tree.now c.args.node)) c.args.proof.now.term c.args.start c.args.mask.now c.in_ok-copy-in-Struct.field-0 c.in_ok-copy-in-Struct.ensures (λ row. ap (λ (t : Tree). zones_over t row) c.in-Struct.ensures.tree)

pub unpruned_of-returns-in-Chunks-clause-kept : goal.unpruned_of-returns-in-Chunks-clause-kept
unpruned_of-returns-in-Chunks-clause-kept g c =
    chunks_unpruned c.unpruned_of_chunks.result (subtree c.args.tree.now c.args.node) (tree_head c.args.tree.now c.args.node) _ c.args.proof.now.term c.args.start c.args.mask.now c.args.reads.now c.in-Chunks.ensures.tree c.unpruned_of_chunks.ensures.kept

pub unpruned_of-returns-in-Chunks-clause-cause : goal.unpruned_of-returns-in-Chunks-clause-cause
unpruned_of-returns-in-Chunks-clause-cause g c =
    chunks_lost c.unpruned_of_chunks.result (subtree c.args.tree.now c.args.node) (tree_head c.args.tree.now c.args.node) _ c.args.start c.args.mask.now c.args.reads.now c.in-Chunks.ensures.tree c.unpruned_of_chunks.ensures.cause

pub unpruned_of_zoned-returns-then-not-selects_some-clause-kept : goal.unpruned_of_zoned-returns-then-not-selects_some-clause-kept
unpruned_of_zoned-returns-then-not-selects_some-clause-kept g c =
    let none : selects_some c.args.mask.now ≡ false = sym c.selects_some.ensures ∙ (search rules) in
    unpruned_none c.args.reads.now (zones_over (subtree c.args.tree.now c.args.node)) c.args.proof.now.term c.args.start c.args.mask.now _ c.in_ok-copy.ensures none

pub unpruned_of_zoned-pruned_rows-requires-clause-ready : goal.unpruned_of_zoned-pruned_rows-requires-clause-ready
unpruned_of_zoned-pruned_rows-requires-clause-ready g c =
    let some : selects_some c.args.mask.now ≡ true = sym c.selects_some.ensures ∙ c.if-not-selects_some.false in
    let needs = zoned_needed (subtree c.args.tree.now c.args.node) (tree_head c.args.tree.now c.args.node) (zones_of false c.args.zone_len c.args.stats.now) (subtree c.args.tree.now c.args.content) (subtree c.args.tree.now c.args.zones) c.args.start c.args.mask.now c.requires.zoned.tree some in
    begin_left (needed (subtree c.args.tree.now c.args.zones) 0 (replicate (tree_head c.args.tree.now c.args.zones).rows true)) _ _ (subst (λ (ns : List ℕ). Begin ns (drop c.args.next.now c.args.reads.now)) needs c.requires.ready)

pub unpruned_of_zoned-unpruned_of-requires : goal.unpruned_of_zoned-unpruned_of-requires
unpruned_of_zoned-unpruned_of-requires g c =
    let some : selects_some c.args.mask.now ≡ true = sym c.selects_some.ensures ∙ c.if-not-selects_some.false in
    let needs = zoned_needed (subtree c.args.tree.now c.args.node) (tree_head c.args.tree.now c.args.node) (zones_of false c.args.zone_len c.args.stats.now) (subtree c.args.tree.now c.args.content) (subtree c.args.tree.now c.args.zones) c.args.start c.args.mask.now c.requires.zoned.tree some in
    let now = needed (subtree c.args.tree.now c.args.zones) 0 (replicate (tree_head c.args.tree.now c.args.zones).rows true) in
    let rest = zones_needed (subtree c.args.tree.now c.args.content) c.args.start c.args.mask.now in
    let later : IsLater c.args.tree.now c.args.node c.args.content = c.requires.zoned.later 0 0 (omega arith) in
    let above : c.args.node < c.args.content = later.0 in
    let known : c.args.content < length c.args.tree.now = later.1 in
    let rows : (tree_head c.args.tree.now c.args.content).rows ≡ (tree_head c.args.tree.now c.args.node).rows = c.requires.zoned.sound.1.rows in
    let bound = subst (IsBoundTo c.args.proof.now) (sym c.requires.zoned.sound.1.dtype) c.requires.bound in
    let ready = begin_next now rest c.args.reads.now c.args.next.now c.pruned_rows.new.next c.in-Ok.ensures.passed (subst (λ (ns : List ℕ). Begin ns (drop c.args.next.now c.args.reads.now)) needs c.requires.ready) in
    (omega (arith, above, known), (known, (c.requires.readable, (omega (arith, rows, c.requires.inside), (bound, ready)))))

pub unpruned_of_zoned-returns-in_ok-kept-in-Ok-unpruned_of-clause-rows : goal.unpruned_of_zoned-returns-in_ok-kept-in-Ok-unpruned_of-clause-rows
unpruned_of_zoned-returns-in_ok-kept-in-Ok-unpruned_of-clause-rows g c =
    let many : length c.in-Ok.pruned ≡ length c.in-Ok-unpruned_of.inside = c.in-Ok.ensures.rows ∙ c.len.ensures ∙ sym c.in-Ok-unpruned_of.ensures.rows in
    ap length c.in_ok-kept-in-Ok-unpruned_of.ensures ∙ without_count c.in-Ok-unpruned_of.inside c.in-Ok.pruned many ∙ c.in-Ok-unpruned_of.ensures.rows

pub unpruned_of_zoned-returns-in_ok-kept-in-Ok-unpruned_of-clause-kept : goal.unpruned_of_zoned-returns-in_ok-kept-in-Ok-unpruned_of-clause-kept
unpruned_of_zoned-returns-in_ok-kept-in-Ok-unpruned_of-clause-kept g c =
    let own = subst (λ (k : ℕ). ArePrunedBy c.args.reads.now c.args.proof.now.term (zone_over (tree_head c.args.tree.now c.args.node) (zones_of false c.args.zone_len c.args.stats.now) (subtree c.args.tree.now c.args.zones)) c.args.start k c.in-Ok.pruned) c.len.ensures c.in-Ok.ensures.pruned in
    zoned_unpruned c.args.reads.now (subtree c.args.tree.now c.args.node) (tree_head c.args.tree.now c.args.node) (zones_of false c.args.zone_len c.args.stats.now) (subtree c.args.tree.now c.args.content) (subtree c.args.tree.now c.args.zones) c.args.proof.now.term c.args.start c.args.mask.now c.in-Ok-unpruned_of.inside c.in-Ok.pruned c.in_ok-kept-in-Ok-unpruned_of.field-0 c.requires.zoned.tree (c.in-Ok.ensures.rows ∙ c.len.ensures) c.in_ok-kept-in-Ok-unpruned_of.ensures own c.in-Ok-unpruned_of.ensures.kept

pub unpruned_of_zoned-returns-in-Err-unpruned_of-clause-cause : goal.unpruned_of_zoned-returns-in-Err-unpruned_of-clause-cause
unpruned_of_zoned-returns-in-Err-unpruned_of-clause-cause g c =
    content_fails c.in-Err-unpruned_of.error c.args.reads.now (subtree c.args.tree.now c.args.node) (tree_head c.args.tree.now c.args.node) (zones_of false c.args.zone_len c.args.stats.now) (subtree c.args.tree.now c.args.content) (subtree c.args.tree.now c.args.zones) c.args.start c.args.mask.now c.requires.zoned.tree c.in-Err-unpruned_of.ensures.cause

pub unpruned_of_zoned-returns-in-Err-clause-cause : goal.unpruned_of_zoned-returns-in-Err-clause-cause
unpruned_of_zoned-returns-in-Err-clause-cause g c =
    let some : selects_some c.args.mask.now ≡ true = sym c.selects_some.ensures ∙ c.if-not-selects_some.false in
    table_fails c.in-Err.error c.args.reads.now (subtree c.args.tree.now c.args.node) (tree_head c.args.tree.now c.args.node) (zones_of false c.args.zone_len c.args.stats.now) (subtree c.args.tree.now c.args.content) (subtree c.args.tree.now c.args.zones) c.args.start c.args.mask.now c.requires.zoned.tree some c.in-Err.ensures.cause
