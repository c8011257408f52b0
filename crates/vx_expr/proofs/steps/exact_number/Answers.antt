use Rattle.std.proofs.Common.{◌+ℤ◌, ◌-ℤ◌}
use Rattle.std.specs.Int.{w128}
use Rattle.std.proofs.lemmas.Int.{to_z-of_z}
use Rattle.vx_expr.proofs.Inside.{inside_same}
use Rattle.vx_expr.proofs.steps.exact_number.Goals as goal

pub returns-in-Add : goal.returns-in-Add
returns-in-Add c =
    let exact = simp (to_z-of_z w128 c.args.left c.ranges.left, to_z-of_z w128 c.args.right c.ranges.right) at c.checked_add.ensures in
    λ kind. rw c.in-Add.is (inside_same (c.args.left +ℤ c.args.right) c.checked_add.result kind exact)

pub returns-in-Sub : goal.returns-in-Sub
returns-in-Sub c =
    let exact = simp (to_z-of_z w128 c.args.left c.ranges.left, to_z-of_z w128 c.args.right c.ranges.right) at c.checked_sub.ensures in
    λ kind. rw c.in-Sub.is (inside_same (c.args.left -ℤ c.args.right) c.checked_sub.result kind exact)
