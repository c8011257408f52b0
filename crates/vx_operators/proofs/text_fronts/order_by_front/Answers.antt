use Rattle.std.proofs.Common.{◌≢◌, ℕ, sym, ap, ◌∙◌}
use Rattle.std.specs.Ordering.{nat_cmp}
use Rattle.vx_arrays.specs.Fronts.{front_number}
use Rattle.vx_operators.proofs.TextOrder.{by_fronts}
use Rattle.vx_operators.proofs.text_fronts.order_by_front.Goals as goal

pub returns-else-left_front-right_front : goal.returns-else-left_front-right_front
returns-else-left_front-right_front c =
    let left = c.args.left.now in
    let right = c.args.right.now in
    let apart : front_number left ≢ front_number right = λ e. c.if-left_front-right_front.false (c.requires.left ∙ e ∙ sym c.requires.right) in
    c.cmp.ensures ∙ ap (λ (n : ℕ). nat_cmp n c.args.right_front) c.requires.left ∙ ap (nat_cmp (front_number left)) c.requires.right
    ∙ sym (by_fronts left right (λ k. (c.type_inv.left k).fits) (λ k. (c.type_inv.right k).fits) apart)
