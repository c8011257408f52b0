use Rattle.vx_splits.proofs.ChunkRows.{joins, takes}
use Rattle.vx_splits.proofs.chunks.chunks_join.Goals as goal

pub returns-clause-selected : goal.returns-clause-selected
returns-clause-selected c = joins

pub returns-clause-taken : goal.returns-clause-taken
returns-clause-taken c = takes
