use Rattle.std.proofs.Common.{ℕ, List, subst, sym, arith}
use Rattle.std.specs.declared.ops.Range.{Range}
use Rattle.vx_splits.specs.Chunks.{Tile, CutsAtMultiples}
use Rattle.vx_splits.proofs.ChunkRows.{first_before_last, chunks_more, chunks_all, row_chunks-tile, row_chunks-cuts}
use Rattle.vx_splits.proofs.chunks.row_chunks.Goals as goal

pub loop-number-preserved : goal.loop-number-preserved
loop-number-preserved c = rw c.in_ok-push.ensures.items (chunks_more c.args.size c.args.rows.start c.args.rows.end _ c.loop-number.number c.loop-number.chunks.items c.clip.result (omega arith) c.loop-number.invariant c.clip.ensures)

pub returns-clause-tile : goal.returns-clause-tile
returns-clause-tile c =
    let up = first_before_last c.args.size c.args.rows.start c.args.rows.end c.requires c.if-rows.false in
    let all = chunks_all c.args.size c.args.rows.start c.args.rows.end c.loop-number.number c.loop-number.chunks.items c.if-rows.false (omega (arith, up)) c.loop-number.invariant in
    λ forwards. subst (λ (chunks : List (Range ℕ)). Tile c.args.rows.start c.args.rows.end chunks) (sym all) (row_chunks-tile c.args.size c.args.rows.start c.args.rows.end c.requires forwards)

pub returns-clause-cuts : goal.returns-clause-cuts
returns-clause-cuts c =
    let up = first_before_last c.args.size c.args.rows.start c.args.rows.end c.requires c.if-rows.false in
    let all = chunks_all c.args.size c.args.rows.start c.args.rows.end c.loop-number.number c.loop-number.chunks.items c.if-rows.false (omega (arith, up)) c.loop-number.invariant in
    subst (λ (chunks : List (Range ℕ)). CutsAtMultiples c.args.size chunks) (sym all) (row_chunks-cuts c.args.size c.args.rows.start c.args.rows.end c.requires)
