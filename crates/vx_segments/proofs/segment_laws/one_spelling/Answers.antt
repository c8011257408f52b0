use Rattle.vx_segments.proofs.Leaves.{has_one_meaning}
use Rattle.vx_segments.proofs.Spelled.{has_one_spelling}
use Rattle.vx_segments.proofs.segment_laws.one_spelling.Goals as goal

pub returns : goal.returns
returns c = record { spelling = has_one_spelling; meaning = has_one_meaning }
