use Rattle.std.proofs.Common.{◌<◌}
use Rattle.scan_output.proofs.side_by_side.part_of.Given as goal

abbrev pub invariant-loop-batch : goal.invariant-loop-batch
invariant-loop-batch l = 0 < l.most
