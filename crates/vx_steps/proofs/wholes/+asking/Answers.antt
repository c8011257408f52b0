use Rattle.vx_steps.proofs.Shaping.{same_law}
use Rattle.vx_steps.proofs.WholeAsking.{none_same}
use Rattle.vx_steps.proofs.wholes.+asking.Goals as goal

pub returns-in-Same : goal.returns-in-Same
returns-in-Same t c = λ is. none_same c.args.table.now c.args.plan c.in-Same.child (same_law c.args.table.now c.args.plan c.in-Same.child c.requires c.in-Same.ensures.shape) (c.asks_none.ensures is)
