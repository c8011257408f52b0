use Rattle.std.proofs.Common.{◌∙◌, ◌++◌, ◌+◌, subst, drop, arith}
use Rattle.scan_output.specs.RowWriting.{batch_lines, lines_of}
use Rattle.scan_output.specs.Writing.{WritingGives}
use Rattle.scan_output.proofs.Buffering.{batches_done, error_then, error_writes, last_gives, next_batch, wrote_more}
use Rattle.scan_output.proofs.row_writing.write_batches.Goals as goal

pub returns-in-Err-write_batch : goal.returns-in-Err-write_batch
returns-in-Err-write_batch g c =
    let here = next_batch c.args.batches.now c.loop-batch.batch-index c.batch-item.result c.loop-batch.buffer.items (batch_lines c.args.batches.now) (g.K.Sink.state c.args.out.now) (g.K.Sink.state c.loop-batch.out) c.loop-batch-test.true c.batch-item.is c.loop-batch.invariant.0 in
    error_writes c.in-Err-write_batch.error (batch_lines c.args.batches.now) c.write_batch.new.buffer.items _ _
    (error_then c.in-Err-write_batch.error _ (c.loop-batch.buffer.items ++ lines_of c.batch-item.result) c.write_batch.new.buffer.items (batch_lines (drop (c.loop-batch.batch-index + 1) c.args.batches.now)) _ _ _ _ here c.loop-batch.invariant.1 c.in-Err-write_batch.ensures)

pub loop-batch-preserved : goal.loop-batch-preserved
loop-batch-preserved g c =
    let here = next_batch c.args.batches.now c.loop-batch.batch-index c.batch-item.result c.loop-batch.buffer.items (batch_lines c.args.batches.now) (g.K.Sink.state c.args.out.now) (g.K.Sink.state c.loop-batch.out) c.loop-batch-test.true c.batch-item.is c.loop-batch.invariant.0 in
    (wrote_more _ (c.loop-batch.buffer.items ++ lines_of c.batch-item.result) c.write_batch.new.buffer.items (batch_lines (drop (c.loop-batch.batch-index + 1) c.args.batches.now)) _ _ _ here c.in-Ok-write_batch.ensures.0, c.in-Ok-write_batch.ensures.1 ∙ c.loop-batch.invariant.1)

pub returns : goal.returns
returns g c =
    let last = last_gives c.write_all.result (batch_lines c.args.batches.now) c.loop-batch.buffer.items (g.K.Sink.state c.args.out.now) (g.K.Sink.state c.loop-batch.out) (g.K.Sink.state c.write_all.new.out)
    (batches_done c.args.batches.now c.loop-batch.batch-index c.loop-batch.buffer.items (batch_lines c.args.batches.now) _ _ (omega (arith, c.loop-batch-test.false)) c.loop-batch.invariant.0) c.loop-batch.invariant.1 in
    last (subst (λ text. WritingGives c.write_all.result text (g.K.Sink.state c.loop-batch.out) (g.K.Sink.state c.write_all.new.out)) c.deref.ensures.value c.write_all.ensures)
