use Rattle.vx_steps.proofs.PlacedLeaves.{under_filter}
use Rattle.vx_steps.proofs.Shaping.{same_plan}
use Rattle.vx_steps.proofs.placed_reads.leaf_under.Goals as goal

pub leaf_at-requires : goal.leaf_at-requires
leaf_at-requires c = (same_plan c.args.table.now c.args.plan c.in-Same.child c.requires c.in-Same.ensures.shape).known

pub returns-in-Same : goal.returns-in-Same
returns-in-Same c = under_filter c.args.table.now c.args.plan c.in-Same.child c.requires c.in-Same.ensures.shape c.leaf_at.result c.leaf_at.ensures
