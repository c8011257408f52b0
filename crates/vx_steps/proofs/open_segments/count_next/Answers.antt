use Rattle.vx_steps.proofs.Counting.{counted_more, counted_past, shape_of_leaf}
use Rattle.vx_steps.proofs.Releasing.{not_kept}
use Rattle.vx_steps.proofs.open_segments.count_next.Goals as goal

pub returns-then-is_kept : goal.returns-then-is_kept
returns-then-is_kept c =
    counted_past c.args.table.now c.args.leaves.now.all c.args.plan c.args.left.now (λ segment free. not_kept c.args.leaves.now.all c.args.plan free.1 c.if-is_kept.ensures) c.requires.before

pub returns-in_ok-add_one-in-Leaf : goal.returns-in_ok-add_one-in-Leaf
returns-in_ok-add_one-in-Leaf c = counted_more c.args.table.now c.args.leaves.now.all c.args.plan c.in-Leaf.segment c.args.left.now c.add_one.new.left c.requires.known c.in-Leaf.ensures.shape c.in_ok-add_one-in-Leaf.ensures c.requires.before

pub returns-in_default : goal.returns-in_default
returns-in_default c = counted_past c.args.table.now c.args.leaves.now.all c.args.plan c.args.left.now (λ segment free. let is = shape_of_leaf c.args.table.now c.args.plan segment c.shape.result c.requires.known c.shape.ensures.shape free.0 in c.in_default.not-Leaf is.0 is.1) c.requires.before
