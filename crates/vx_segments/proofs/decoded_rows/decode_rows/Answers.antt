use Rattle.std.proofs.Common.{◌≡◌, Err}
use Rattle.vx_types.specs.Views.{data_type}
use Rattle.vx_segments.specs.declared.decode_errors.DecodeError.TheVariants as errors
use Rattle.vx_segments.proofs.ChosenRows.{rows_read}
use Rattle.vx_segments.proofs.CodedSegments.{unread_as}
use Rattle.vx_segments.proofs.decoded_rows.decode_rows.Goals as goal

pub returns-in-Err-clause-unread : goal.returns-in-Err-clause-unread
returns-in-Err-clause-unread c = λ e.
    let same : c.in-Err.error ≡ errors.BadSegment = cc in
    unread_as c.args.coding (data_type c.args.dtype.now) c.args.rows c.args.bytes.now (c.in-Err.ensures.refused (λ i. Err (same i)))

pub returns-in-Ok-clause-read : goal.returns-in-Ok-clause-read
returns-in-Ok-clause-read c = rows_read c.args.coding (data_type c.args.dtype.now) c.args.rows c.args.range.start c.args.range.end c.args.bytes.now _ c.requires.leaf c.in-Ok.ensures.spelled
