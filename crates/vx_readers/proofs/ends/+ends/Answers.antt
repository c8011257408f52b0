use Rattle.std.proofs.Common.{◌≡◌, ℕ, ◌<◌, length, get_or, arith}
use Rattle.std.proofs.lemmas.Option.{slice_get-get_or}
use Rattle.vx_reads.specs.Readable.{tree_head}
use Rattle.vx_readers.proofs.EndsInside.{none_behind, none_left}
use Rattle.vx_readers.proofs.ends.+ends.Goals as goal

pub add_chunk_ends-returns-then-end-row-clause-ends : goal.add_chunk_ends-returns-then-end-row-clause-ends
add_chunk_ends-returns-then-end-row-clause-ends g c =
    none_left c.args.tree.now c.args.chunks.now c.loop-chunk.chunk-index c.loop-chunk.row c.args.start c.args.end c.loop-chunk.splits _ c.if-end-row.true c.loop-chunk.invariant.ends

pub add_chunk_ends-returns-in-None-clause-ends : goal.add_chunk_ends-returns-in-None-clause-ends
add_chunk_ends-returns-in-None-clause-ends g c =
    let chunk : ℕ = get_or c.args.chunks.now c.loop-chunk.chunk-index 0 in
    let lt : c.loop-chunk.chunk-index < length c.args.chunks.now = c.loop-chunk-test.true in
    let rows : c.rows_at.result ≡ (tree_head c.args.tree.now (get_or c.args.chunks.now c.loop-chunk.chunk-index 0)).rows = c.rows_at.ensures in
    none_behind c.args.tree.now c.args.chunks.now c.loop-chunk.chunk-index chunk c.loop-chunk.row c.args.start c.args.end c.loop-chunk.splits _ _ (slice_get-get_or c.args.chunks.now c.loop-chunk.chunk-index 0 lt) (omega (arith, c.in-None.ensures, rows)) c.loop-chunk.invariant.ends c.in_ok-add_ends.ensures.ends
