use Rattle.vx_segments.proofs.Leaves.{spelled_is_read}
use Rattle.vx_segments.proofs.Spelled.{reads_spelled}
use Rattle.vx_segments.proofs.segment_laws.decoded_is_spelled.Goals as goal

pub returns : goal.returns
returns c = record { spelled = reads_spelled; read = spelled_is_read }
