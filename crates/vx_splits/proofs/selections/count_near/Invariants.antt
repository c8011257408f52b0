use Rattle.std.proofs.Common.{◌-◌}
use Rattle.vx_splits.proofs.Runs.{Parting}
use Rattle.vx_splits.proofs.selections.count_near.Given as goal

abbrev pub invariant-loop-low : goal.invariant-loop-low
invariant-loop-low l = Parting l.rows l.bound l.low l.high

abbrev pub decreases-loop-low : goal.decreases-loop-low
decreases-loop-low l = l.high - l.low
