use Rattle.std.proofs.Common.{◌≡◌, Err}
use Rattle.vx_types.specs.Views.{data_type}
use Rattle.vx_segments.specs.declared.decode_errors.DecodeError.TheVariants as errors
use Rattle.vx_segments.proofs.Decoded.{unread_from}
use Rattle.vx_segments.proofs.Leaves.{spelled_is_read}
use Rattle.vx_segments.proofs.Spelled.{reads_spelled}
use Rattle.vx_segments.proofs.decoding.decode.Goals as goal

pub returns-in-Err-clause-unread : goal.returns-in-Err-clause-unread
returns-in-Err-clause-unread c = λ e.
    let same : c.in-Err.error ≡ errors.BadSegment = cc in
    unread_from (data_type c.args.dtype.now) c.args.rows c.args.bytes.now (c.in-Err.ensures.refused (λ i. Err (same i))) (reads_spelled (data_type c.args.dtype.now) c.args.rows c.args.bytes.now)

pub returns-in-Ok-clause-read : goal.returns-in-Ok-clause-read
returns-in-Ok-clause-read c = spelled_is_read (data_type c.args.dtype.now) c.requires.leaf c.args.rows c.args.bytes.now _ c.in-Ok.ensures.spelled
