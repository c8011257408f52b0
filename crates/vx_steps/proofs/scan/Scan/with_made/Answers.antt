use Rattle.std.proofs.Common.{map, sym, subst}
use Rattle.vx_steps.specs.Held.{AreTyped}
use Rattle.vx_steps.specs.Kept.{kept_data, AreOfDistinctPlans}
use Rattle.vx_steps.specs.Offers.{IsForPlan}
use Rattle.vx_steps.specs.ScanData.{ScanData}
use Rattle.vx_steps.proofs.Beginning.{scan_made}
use Rattle.vx_steps.proofs.Offering.{apart_kept, typed_kept}
use Rattle.vx_steps.proofs.scan.Scan.with_made.Goals as goal

pub invariant_of-self : goal.invariant_of-self
invariant_of-self c =
    let nodes = c.self.inside.table.now in
    let typed = typed_kept nodes (IsForPlan nodes) (λ k is. is) (map kept_data c.args.made.items) (map kept_data c.for_plans.result.items) c.for_plans.ensures in
    let apart = apart_kept (IsForPlan nodes) (map kept_data c.args.made.items) (map kept_data c.for_plans.result.items) c.for_plans.ensures c.requires in
    scan_made nodes c.self.inside.job c.self.inside.progress c.hand_in_made.new.self c.self.inside.refused c.of-made.result c.if-not-is_unstarted.ensures (subst (AreTyped nodes) (sym c.of-made.ensures) typed) (subst AreOfDistinctPlans (sym c.of-made.ensures) apart) c.hand_in_made.ensures c.self.invariant

pub returns-clause-apart : goal.returns-clause-apart
returns-clause-apart c =
    let nodes = c.self.inside.table.now in
    let apart = apart_kept (IsForPlan nodes) (map kept_data c.args.made.items) (map kept_data c.for_plans.result.items) c.for_plans.ensures c.requires in
    rw c.hand_in_made.ensures (subst AreOfDistinctPlans (sym c.of-made.ensures) apart)

pub returns-then-not-is_unstarted-clause-apart : goal.returns-then-not-is_unstarted-clause-apart
returns-then-not-is_unstarted-clause-apart c =
    let P : ScanData → Type 0 = λ scan. AreOfDistinctPlans scan.progress.wholes.made in
    subst P c.self.view_is c.self.invariant.0.apart_made
