use Rattle.std.proofs.Common.{map}
use Rattle.vx_steps.specs.Kept.{kept_data}
use Rattle.vx_steps.proofs.Indexing.{indexed_none}
use Rattle.vx_steps.proofs.kept.KeptColumns.new.Goals as goal

pub invariant_of-result : goal.invariant_of-result
invariant_of-result c = indexed_none c.new-2.result (map kept_data c.new.result.items) c.new-2.ensures
