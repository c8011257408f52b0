use Rattle.std.proofs.Common.{map, sym, subst}
use Rattle.vx_steps.specs.Held.{AreTyped}
use Rattle.vx_steps.specs.Kept.{kept_data}
use Rattle.vx_steps.specs.Offers.{IsForPlan}
use Rattle.vx_steps.proofs.Beginning.{scan_given}
use Rattle.vx_steps.proofs.Offering.{typed_kept}
use Rattle.vx_steps.proofs.scan.Scan.with_value_cache.Goals as goal

pub invariant_of-self : goal.invariant_of-self
invariant_of-self c =
    let nodes = c.self.inside.table.now in
    let typed = typed_kept nodes (IsForPlan nodes) (λ k is. is) (map kept_data c.args.given.items) (map kept_data c.for_plans.result.items) c.for_plans.ensures in
    scan_given nodes c.self.inside.job c.hand_in.new.self c.self.inside.progress c.self.inside.refused c.of-given.result c.if-not-is_unstarted.ensures (subst (AreTyped nodes) (sym c.of-given.ensures) typed) c.hand_in.ensures c.self.invariant
