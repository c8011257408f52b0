use Rattle.vx_splits.proofs.ChunkRows.{shared}
use Rattle.vx_splits.proofs.chunks.chunks_are_shared.Goals as goal

pub returns : goal.returns
returns c = shared
