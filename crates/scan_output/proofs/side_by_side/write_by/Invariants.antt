use Rattle.std.proofs.Common.{◌≡◌, ◌-◌, length, vec_len, drop}
use Rattle.scan_output.specs.RowWriting.{batch_lines, WritesBut}
use Rattle.scan_output.proofs.side_by_side.write_by.Given as goal

-- the lines of the batches from here on are not written yet
abbrev pub invariant-loop-first : goal.invariant-loop-first
invariant-loop-first g l =
    WritesBut (batch_lines (drop l.first l.batches)) (batch_lines l.batches) (g.K.Sink.state l.fn.out) (g.K.Sink.state l.out)
    × ((g.K.Sink.state l.out).faults ≡ (g.K.Sink.state l.fn.out).faults) × (vec_len l.texts ≡ l.workers)

abbrev pub decreases-loop-first : goal.decreases-loop-first
decreases-loop-first g l = length l.batches - l.first
