use Rattle.std.proofs.Common.{◌-◌, length}
use Rattle.scan_output.proofs.Writes.{WroteSoFar}
use Rattle.scan_output.proofs.writing.write_all.Given as goal

abbrev pub invariant-loop-done : goal.invariant-loop-done
invariant-loop-done g l = WroteSoFar l.done l.text (g.K.Sink.state l.fn.out) (g.K.Sink.state l.out)

abbrev pub decreases-loop-done : goal.decreases-loop-done
decreases-loop-done g l = length l.text - l.done
