use Rattle.std.proofs.Common.{◌≡◌, ◌++◌, drop}
use Rattle.vx_operators.specs.Kernels.{compares}
use Rattle.vx_operators.specs.Rows.{along}
use Rattle.vx_operators.specs.Sides.{side_numbers}
use Rattle.vx_operators.proofs.numbers.compared_rows.Given as goal

abbrev pub invariant-loop-row : goal.invariant-loop-row
invariant-loop-row g l = l.truths.items ++ along (compares l.op) (drop l.row (side_numbers g.T.Kind.number l.left)) (drop l.row (side_numbers g.T.Kind.number l.right)) ≡ along (compares l.op) (side_numbers g.T.Kind.number l.left) (side_numbers g.T.Kind.number l.right)
