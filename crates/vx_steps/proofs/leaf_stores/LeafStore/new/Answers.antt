use Rattle.std.proofs.Common.{[]}
use Rattle.vx_steps.proofs.leaf_stores.LeafStore.new.Goals as goal

pub returns-clause-counted : goal.returns-clause-counted
returns-clause-counted c = λ nodes. c.new-2.ensures nodes []
