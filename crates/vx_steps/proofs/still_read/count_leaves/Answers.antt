use Rattle.std.proofs.Common.{rules}
use Rattle.vx_steps.proofs.AddedNeeds.{all_leaves, leaves_more}
use Rattle.vx_steps.proofs.still_read.count_leaves.Goals as goal

pub loop-place-preserved : goal.loop-place-preserved
loop-place-preserved c = leaves_more c.args.needs.now c.loop-place.place c.args.leaves.now c.loop-place.leaves c.count_leaf.new.leaves c.loop-place-test.true c.loop-place.invariant c.in_ok-count_leaf.ensures

pub returns : goal.returns
returns c = all_leaves c.args.needs.now c.loop-place.place c.args.leaves.now c.loop-place.leaves (search rules) c.loop-place.invariant
