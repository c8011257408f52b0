use Rattle.std.proofs.Common.{◌≡◌, ◌++◌, ◌-◌, length, drop}
use Rattle.scan_output.specs.RowText.{lines}
use Rattle.scan_output.specs.RowWriting.{lines_of, WritesBut}
use Rattle.scan_output.proofs.row_writing.write_batch.Given as goal

-- what is not written yet is in the buffer, and behind it the lines of the rows from here on
abbrev pub invariant-loop-row : goal.invariant-loop-row
invariant-loop-row g l =
    WritesBut (l.buffer.items ++ lines l.batch.dtype (drop l.row l.batch.values)) (l.fn.buffer.items ++ lines_of l.batch) (g.K.Sink.state l.fn.out) (g.K.Sink.state l.out)
    × ((g.K.Sink.state l.out).faults ≡ (g.K.Sink.state l.fn.out).faults)

abbrev pub decreases-loop-row : goal.decreases-loop-row
decreases-loop-row g l = length l.batch.values - l.row
