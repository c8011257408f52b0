use Rattle.std.proofs.Common.{◌≡◌, ◌++◌, pos, map, drop}
use Rattle.vx_operators.specs.Kernels.{exact_inside, of_two}
use Rattle.vx_operators.specs.Rows.{front}
use Rattle.vx_operators.specs.Sides.{side_numbers}
use Rattle.vx_operators.proofs.numbers.joined_rows.Given as goal

abbrev pub invariant-loop-row : goal.invariant-loop-row
invariant-loop-row g l =
    map g.T.Kind.number l.made.items ++ front (of_two (exact_inside g.T.Kind.kind l.op) (pos 0) (drop l.row l.valid) (drop l.row (side_numbers g.T.Kind.number l.left)) (drop l.row (side_numbers g.T.Kind.number l.right)))
    ≡ front (of_two (exact_inside g.T.Kind.kind l.op) (pos 0) l.valid (side_numbers g.T.Kind.number l.left) (side_numbers g.T.Kind.number l.right))
