use Rattle.std.proofs.Common.{map}
use Rattle.vx_steps.specs.Kept.{kept_data}
use Rattle.vx_steps.proofs.leaf_stores.LeafStore.of.Goals as goal

pub returns-clause-counted : goal.returns-clause-counted
returns-clause-counted c = λ nodes. c.new.ensures nodes (map kept_data c.args.columns.items)
