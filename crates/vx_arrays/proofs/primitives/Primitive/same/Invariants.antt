use Rattle.std.proofs.Common.{◌≡◌, map, take}
use Rattle.vx_arrays.proofs.primitives.Primitive.same.Given as goal

abbrev pub invariant-loop-row : goal.invariant-loop-row
invariant-loop-row g l = map g.T.Kind.number (take l.row l.ones) ≡ map g.T.Kind.number (take l.row l.others)
