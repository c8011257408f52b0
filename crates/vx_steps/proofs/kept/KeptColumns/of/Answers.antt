use Rattle.std.proofs.Common.{map}
use Rattle.vx_steps.specs.Kept.{kept_data}
use Rattle.vx_steps.proofs.Indexing.{indexed_none}
use Rattle.vx_steps.proofs.kept.KeptColumns.of.Goals as goal

pub invariant_of-result : goal.invariant_of-result
invariant_of-result c = indexed_none c.new.result (map kept_data c.args.columns.items) c.new.ensures
