use Rattle.std.proofs.Common.{map, take}
use Rattle.std.specs.List.{AllByRecursion}
use Rattle.vx_base.specs.Slots.{IsShort}
use Rattle.vx_base.specs.ValueViews.{datum}
use Rattle.vx_base_cases.proofs.big.are_short.Given as goal

abbrev pub invariant-loop-row : goal.invariant-loop-row
invariant-loop-row l = AllByRecursion IsShort (map datum (take l.row l.values))
