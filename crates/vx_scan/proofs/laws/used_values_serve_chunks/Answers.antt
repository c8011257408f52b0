use Rattle.vx_scan.proofs.ChunkCauses.{used_have_cause, whole_have_cause}
use Rattle.vx_scan.proofs.ChunkLaws.{used_give_piece, whole_give_piece}
use Rattle.vx_scan.proofs.laws.used_values_serve_chunks.Goals as goal

pub returns-clause-pieces : goal.returns-clause-pieces
returns-clause-pieces c = used_give_piece

pub returns-clause-whole_pieces : goal.returns-clause-whole_pieces
returns-clause-whole_pieces c = whole_give_piece

pub returns-clause-causes : goal.returns-clause-causes
returns-clause-causes c = used_have_cause

pub returns-clause-whole_causes : goal.returns-clause-whole_causes
returns-clause-whole_causes c = whole_have_cause
