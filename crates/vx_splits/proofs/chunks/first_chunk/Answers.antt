use Rattle.std.proofs.Common.{◌≡◌, ℕ, ◌∷◌, sym, subst}
use Rattle.std.specs.declared.ops.Range.{Range}
use Rattle.vx_splits.specs.Chunks.{row_chunks}
use Rattle.vx_splits.proofs.ChunkRows.{chunks_first}
use Rattle.vx_splits.proofs.chunks.first_chunk.Goals as goal

pub returns-clause-first : goal.returns-clause-first
returns-clause-first c =
    let size = c.args.size in
    let start = c.args.rows.now.start in
    let end = c.args.rows.now.end in
    subst (λ (piece : Range ℕ). row_chunks size start end ≡ piece ∷ row_chunks size piece.end end) (sym c.clip.ensures) (chunks_first size start end c.requires.size c.requires.some)
