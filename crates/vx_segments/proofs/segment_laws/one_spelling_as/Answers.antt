use Rattle.vx_segments.proofs.CodingsRead.{codings_have_one_spelling, codings_have_one_meaning}
use Rattle.vx_segments.proofs.segment_laws.one_spelling_as.Goals as goal

pub returns : goal.returns
returns c = record { spelling = codings_have_one_spelling; meaning = codings_have_one_meaning }
