use Rattle.std.proofs.Common.{◌≡◌, Err, arith}
use Rattle.vx_types.specs.Views.{data_type}
use Rattle.vx_segments.specs.declared.decode_errors.DecodeError.TheVariants as errors
use Rattle.vx_segments.proofs.CodedRows.{constant_range, nothing_range, no_constant, one_refused}
use Rattle.vx_segments.proofs.constant_segments.decode_constant_rows.Goals as goal

pub returns-in-Ok-clause-spelled : goal.returns-in-Ok-clause-spelled
returns-in-Ok-clause-spelled c = nothing_range (data_type c.args.dtype.now) c.args.rows c.args.range.start c.args.range.end c.args.bytes.now c.in-Ok.none.values (omega (arith, c.if-rows-eq0.true)) c.requires.forwards c.requires.inside c.in-Ok.ensures.none c.in-Ok.ensures.values

pub returns-in-Err-clause-refused : goal.returns-in-Err-clause-refused
returns-in-Err-clause-refused c = λ e.
    let same : c.in-Err.error ≡ errors.BadSegment = cc in
    no_constant (data_type c.args.dtype.now) c.args.rows c.args.bytes.now (omega (arith, c.if-rows-eq0.true)) (c.in-Err.ensures.refused (λ i. Err (same i)))

pub returns-in_ok-column-in-Ok-decode-clause-spelled : goal.returns-in_ok-column-in-Ok-decode-clause-spelled
returns-in_ok-column-in-Ok-decode-clause-spelled c =
    constant_range (data_type c.args.dtype.now) c.args.rows c.args.range.start c.args.range.end c.args.bytes.now c.in-Ok-decode.one.values c.in_ok-column-in-Ok-decode.column.values (omega (arith, c.if-rows-eq0.false)) c.requires.forwards c.requires.inside c.in-Ok-decode.ensures.spelled c.in_ok-column-in-Ok-decode.ensures.values

pub returns-in-Err-decode-clause-refused : goal.returns-in-Err-decode-clause-refused
returns-in-Err-decode-clause-refused c = λ e.
    let same : c.in-Err-decode.error ≡ errors.BadSegment = cc in
    one_refused (data_type c.args.dtype.now) c.args.rows c.args.bytes.now (omega (arith, c.if-rows-eq0.false)) (c.in-Err-decode.ensures.refused (λ i. Err (same i)))
