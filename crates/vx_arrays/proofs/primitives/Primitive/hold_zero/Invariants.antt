use Rattle.std.proofs.Common.{map, take, pos}
use Rattle.vx_masks.specs.Rows.{NullsHold}
use Rattle.vx_arrays.proofs.primitives.Primitive.hold_zero.Given as goal

abbrev pub invariant-loop-row : goal.invariant-loop-row
invariant-loop-row g l = NullsHold (pos 0) (take l.row l.valid) (map g.T.Kind.number (take l.row l.numbers))
