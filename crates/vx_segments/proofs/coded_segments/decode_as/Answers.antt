use Rattle.std.proofs.Common.{◌≡◌, Err}
use Rattle.vx_types.specs.Views.{data_type}
use Rattle.vx_segments.specs.declared.decode_errors.DecodeError.TheVariants as errors
use Rattle.vx_segments.proofs.CodedSegments.{unread_as}
use Rattle.vx_segments.proofs.CodingsRead.{spelled_codings_are_read}
use Rattle.vx_segments.proofs.coded_segments.decode_as.Goals as goal

pub returns-in-Err-clause-unread : goal.returns-in-Err-clause-unread
returns-in-Err-clause-unread c = λ e.
    let same : c.in-Err.error ≡ errors.BadSegment = cc in
    unread_as c.args.coding (data_type c.args.dtype.now) c.args.rows c.args.bytes.now (c.in-Err.ensures.refused (λ i. Err (same i)))

pub returns-in-Ok-clause-read : goal.returns-in-Ok-clause-read
returns-in-Ok-clause-read c = spelled_codings_are_read c.args.coding (data_type c.args.dtype.now) c.requires.leaf c.args.rows c.args.bytes.now _ c.in-Ok.ensures.spelled
