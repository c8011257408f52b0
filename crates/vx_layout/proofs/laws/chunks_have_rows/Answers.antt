use Rattle.vx_layout.proofs.TreeRows.{row_of_chunk, chunk_inside}
use Rattle.vx_layout.proofs.laws.chunks_have_rows.Goals as goal

pub returns-clause-row : goal.returns-clause-row
returns-clause-row c = row_of_chunk

pub returns-clause-inside : goal.returns-clause-inside
returns-clause-inside c = chunk_inside
