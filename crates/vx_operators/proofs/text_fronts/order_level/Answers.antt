use Rattle.std.proofs.Common.{◌≤◌, length, sym, ◌∙◌, arith}
use Rattle.vx_operators.proofs.TextOrder.{by_lengths}
use Rattle.vx_operators.proofs.text_fronts.order_level.Goals as goal

pub returns-then-longer-le16 : goal.returns-then-longer-le16
returns-then-longer-le16 c =
    let left = c.args.left.now in
    let right = c.args.right.now in
    let short : length left ≤ 16 = omega arith in
    let brief : length right ≤ 16 = omega arith in
    c.cmp.ensures ∙ sym (by_lengths left right (λ k. (c.type_inv.left k).fits) (λ k. (c.type_inv.right k).fits) c.requires short brief)
