use Rattle.std.proofs.Common.{◌≡◌, ℤ, None, option_map, option_and_then, sym, ap, ◌∙◌, to_z, of_z}
use Rattle.std.specs.Int.{w128}
use Rattle.std.proofs.lemmas.Int.{to_z-of_z}
use Rattle.vx_base.specs.Data.{number}
use Rattle.vx_expr.specs.Meaning.{if_inside, exact}
use Rattle.vx_expr.proofs.steps.exact_inside.Goals as goal

pub returns-in_err-exact_number : goal.returns-in_err-exact_number
returns-in_err-exact_number c =
    let kind = c.args.kind in
    let left : to_z w128 (of_z w128 c.args.left) ≡ c.args.left = to_z-of_z w128 c.args.left c.ranges.left in
    let right : to_z w128 (of_z w128 c.args.right) ≡ c.args.right = to_z-of_z w128 c.args.right c.ranges.right in
    let none : option_map (λ (z : ℤ). number z) c.from_residual.result ≡ None = ap (option_map (λ (z : ℤ). number z)) c.from_residual.ensures in
    let nothing : option_and_then (if_inside kind) c.exact_number.result ≡ None = ap (option_and_then (if_inside kind)) c.in_err-exact_number.was in
    none ∙ sym nothing ∙ c.exact_number.ensures kind ∙ ap (λ (x : ℤ). option_and_then (if_inside kind) (exact c.args.op x (to_z w128 (of_z w128 c.args.right)))) left ∙ ap (λ (y : ℤ). option_and_then (if_inside kind) (exact c.args.op c.args.left y)) right
