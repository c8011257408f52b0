use Rattle.std.proofs.Common.{◌≡◌, ◌++◌, drop}
use Rattle.scan_output.specs.RowWriting.{batch_lines, WritesBut}
use Rattle.scan_output.proofs.row_writing.write_batches.Given as goal

-- what is not written yet is in the buffer, and behind it the lines of the batches from here on
abbrev pub invariant-loop-batch : goal.invariant-loop-batch
invariant-loop-batch g l =
    WritesBut (l.buffer.items ++ batch_lines (drop l.batch-index l.batches)) (batch_lines l.batches) (g.K.Sink.state l.fn.out) (g.K.Sink.state l.out)
    × ((g.K.Sink.state l.out).faults ≡ (g.K.Sink.state l.fn.out).faults)
