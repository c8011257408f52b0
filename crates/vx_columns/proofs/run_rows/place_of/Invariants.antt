use Rattle.std.proofs.Common.{◌-◌}
use Rattle.vx_columns.proofs.SpreadRuns.{Between}
use Rattle.vx_columns.proofs.run_rows.place_of.Given as goal

abbrev pub invariant-loop-low : goal.invariant-loop-low
invariant-loop-low l = Between l.ends l.row l.low l.high

abbrev pub decreases-loop-low : goal.decreases-loop-low
decreases-loop-low l = l.high - l.low
