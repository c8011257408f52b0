use Rattle.std.proofs.Common.{take}
use Rattle.std.specs.List.{AllByRecursion}
use Rattle.std.specs.Str.{IsCharBoundary}
use Rattle.vx_arrays.proofs.texts.are_utf8.Given as goal

abbrev pub invariant-loop-end : goal.invariant-loop-end
invariant-loop-end l = AllByRecursion (IsCharBoundary l.bytes) (take l.end-index l.ends)
