use Rattle.std.proofs.Common.{rules}
use Rattle.vx_steps.specs.Kept.{kept_data}
use Rattle.vx_steps.specs.Offers.{IsForLeaf}
use Rattle.vx_steps.proofs.Offering.{keeps_retained}
use Rattle.vx_steps.proofs.offers.for_leaves.Goals as goal

pub returns : goal.returns
returns c = keeps_retained _ kept_data (IsForLeaf c.args.table.now) _ (λ x b q step. search rules) c.args.offered.items c.retain.new.self.items c.retain.ensures.filtered
