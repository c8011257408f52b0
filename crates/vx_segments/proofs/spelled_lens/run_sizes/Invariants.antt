use Rattle.std.proofs.Common.{◌-◌, length}
use Rattle.vx_segments.proofs.RunSizes.{CountedTo}
use Rattle.vx_segments.proofs.spelled_lens.run_sizes.Given as goal

abbrev pub invariant-loop-row : goal.invariant-loop-row
invariant-loop-row l = CountedTo l.column.values l.row l.sizes.runs l.sizes.once l.sizes.all

abbrev pub decreases-loop-row : goal.decreases-loop-row
decreases-loop-row l = length l.column.values - l.row
