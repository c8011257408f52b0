use Rattle.std.proofs.Common.{◌∙◌, ◌≤◌, ◌++◌, drop, arith}
use Rattle.scan_output.specs.RowText.{lines}
use Rattle.scan_output.specs.RowWriting.{lines_of}
use Rattle.scan_output.proofs.Buffering.{rows_in, wrote_more, error_then}
use Rattle.scan_output.proofs.row_writing.write_batch.Goals as goal

pub loop-row-preserved : goal.loop-row-preserved
loop-row-preserved g c =
    let le : c.loop-row.row ≤ c.min-end.result = omega (arith, c.loop-row-test.true, c.min-end.ensures, c.saturating_add.ensures, c.len.ensures.rows, c.len-in-loop-row.ensures.rows) in
    let gone = rows_in c.args.batch.now.dtype c.args.batch.now.values c.loop-row.row c.min-end.result c.loop-row.buffer.items c.add_row_lines.new.out.items (c.args.buffer.now.items ++ lines_of c.args.batch.now) (g.K.Sink.state c.args.out.now) (g.K.Sink.state c.loop-row.out) le (c.in-Ok.ensures) (c.loop-row.invariant.0) in
    (wrote_more _ c.add_row_lines.new.out.items c.write_full.new.buffer.items (lines c.args.batch.now.dtype (drop c.min-end.result c.args.batch.now.values)) _ _ _ gone c.in-Ok-write_full.ensures.0, c.in-Ok-write_full.ensures.1 ∙ c.loop-row.invariant.1)

pub returns-in-Err-write_full : goal.returns-in-Err-write_full
returns-in-Err-write_full g c =
    let le : c.loop-row.row ≤ c.min-end.result = omega (arith, c.loop-row-test.true, c.min-end.ensures, c.saturating_add.ensures, c.len.ensures.rows, c.len-in-loop-row.ensures.rows) in
    let gone = rows_in c.args.batch.now.dtype c.args.batch.now.values c.loop-row.row c.min-end.result c.loop-row.buffer.items c.add_row_lines.new.out.items (c.args.buffer.now.items ++ lines_of c.args.batch.now) (g.K.Sink.state c.args.out.now) (g.K.Sink.state c.loop-row.out) le c.in-Ok.ensures (c.loop-row.invariant.0) in
    error_then c.in-Err-write_full.error _ c.add_row_lines.new.out.items c.write_full.new.buffer.items (lines c.args.batch.now.dtype (drop c.min-end.result c.args.batch.now.values)) c.write_full.new.buffer.items _ _ _ gone c.loop-row.invariant.1 c.in-Err-write_full.ensures
