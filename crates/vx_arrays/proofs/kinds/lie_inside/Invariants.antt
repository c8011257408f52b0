use Rattle.std.proofs.Common.{map, take}
use Rattle.std.specs.List.{AllByRecursion}
use Rattle.vx_types.specs.Fits.{IsInside}
use Rattle.vx_arrays.proofs.kinds.lie_inside.Given as goal

abbrev pub invariant-loop-number : goal.invariant-loop-number
invariant-loop-number g l = AllByRecursion (IsInside g.T.Kind.kind) (map g.T.Kind.number (take l.number-index l.numbers))
