use Rattle.vx_segments.proofs.Leaves.{encoding_is_undone}
use Rattle.vx_segments.proofs.segment_laws.decoding_undoes_encoding.Goals as goal

pub returns : goal.returns
returns c = encoding_is_undone
