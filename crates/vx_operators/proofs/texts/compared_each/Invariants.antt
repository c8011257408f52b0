use Rattle.std.proofs.Common.{◌≡◌, ◌++◌, drop}
use Rattle.vx_operators.specs.Kernels.{compares_text}
use Rattle.vx_operators.specs.Rows.{along}
use Rattle.vx_operators.specs.TextSides.{side_texts}
use Rattle.vx_operators.proofs.texts.compared_each.Given as goal

abbrev pub invariant-loop-row : goal.invariant-loop-row
invariant-loop-row l = l.truths.items ++ along (compares_text l.op) (drop l.row (side_texts l.left)) (drop l.row (side_texts l.right)) ≡ along (compares_text l.op) (side_texts l.left) (side_texts l.right)
