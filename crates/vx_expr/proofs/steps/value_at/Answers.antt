use Rattle.vx_expr.proofs.Places.{found_at}
use Rattle.vx_expr.proofs.steps.value_at.Goals as goal

pub returns : goal.returns
returns c = found_at c.items.result.now c.args.values.now c.args.place c.get.result c.items.ensures c.get.ensures.lookup
