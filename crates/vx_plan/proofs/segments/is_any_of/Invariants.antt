use Rattle.std.proofs.Common.{◌≡◌, ◌-◌, false, take, drop}
use Rattle.vx_plan.specs.Reaches.{any_row}
use Rattle.vx_plan.proofs.segments.is_any_of.Given as goal

abbrev pub invariant-loop-row : goal.invariant-loop-row
invariant-loop-row l = any_row (take (l.row - l.skip) (drop l.skip l.mask)) ≡ false
