use Rattle.std.proofs.Common.{map}
use Rattle.vx_steps.specs.Kept.{kept_data}
use Rattle.vx_steps.specs.Offers.{IsForLeaf}
use Rattle.vx_steps.proofs.Beginning.{scan_leaves}
use Rattle.vx_steps.proofs.Offering.{typed_kept}
use Rattle.vx_steps.proofs.scan.Scan.with_leaves.Goals as goal

pub invariant_of-self : goal.invariant_of-self
invariant_of-self c =
    let nodes = c.self.inside.table.now in
    let kept = map kept_data c.for_leaves.result.items in
    let typed = typed_kept nodes (IsForLeaf nodes) (λ k is. is.plan) (map kept_data c.args.leaves.items) kept c.for_leaves.ensures in
    let stored = c.of-store.ensures in
    scan_leaves nodes c.self.inside.job c.self.inside.progress c.hand_in.new.self c.self.inside.refused c.of-store.result kept c.if-not-is_unstarted.ensures stored.all stored.here (stored.counted nodes) typed c.hand_in.ensures c.self.invariant
