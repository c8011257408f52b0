use Rattle.vx_segments.proofs.CodingsRead.{codings_read_spelled, spelled_codings_are_read}
use Rattle.vx_segments.proofs.segment_laws.decoded_as_is_spelled.Goals as goal

pub returns : goal.returns
returns c = record { spelled = codings_read_spelled; read = spelled_codings_are_read }
