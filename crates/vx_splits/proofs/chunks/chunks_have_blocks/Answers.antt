use Rattle.vx_splits.proofs.ChunkRows.{sizes}
use Rattle.vx_splits.proofs.chunks.chunks_have_blocks.Goals as goal

pub returns : goal.returns
returns c = sizes
