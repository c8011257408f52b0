use Rattle.std.proofs.Common.{map, subst}
use Rattle.vx_steps.specs.Held.{AreTyped}
use Rattle.vx_steps.specs.Kept.{kept_data, AreOfDistinctPlans}
use Rattle.vx_steps.specs.Leavings.{IsReadBehind}
use Rattle.vx_steps.specs.Offers.{Keeps}
use Rattle.vx_steps.specs.ScanData.{ScanData}
use Rattle.vx_steps.proofs.Beginning.{used_typed}
use Rattle.vx_steps.proofs.Offering.{typed_those}
use Rattle.vx_steps.proofs.scan.Scan.into_kept.Goals as goal

pub returns-clause-leaves : goal.returns-clause-leaves
returns-clause-leaves c =
    let P : ScanData → Type 0 = λ scan. Keeps (λ kept. IsReadBehind scan.nodes scan.job kept.node) scan.progress.leaves (map kept_data c.leaves_behind-leaves.result.items) in
    let inside = c.self.inside in
    subst P c.self.view_is c.leaves_behind-leaves.ensures

pub returns-clause-typed_leaves : goal.returns-clause-typed_leaves
returns-clause-typed_leaves c =
    let inside = c.self.inside in
    let P : ScanData → Type 0 = λ scan. AreTyped scan.nodes (map kept_data c.leaves_behind-leaves.result.items) in
    subst P c.self.view_is (typed_those inside.table.now (IsReadBehind inside.table.now inside.job) inside.progress.store.columns.all (map kept_data c.leaves_behind-leaves.result.items) c.leaves_behind-leaves.ensures c.self.invariant.0.typed_leaves)

pub returns-clause-typed_used : goal.returns-clause-typed_used
returns-clause-typed_used c =
    let P : ScanData → Type 0 = λ scan. AreTyped scan.nodes scan.progress.wholes.used in
    let inside = c.self.inside in
    subst P c.self.view_is (used_typed inside.table.now inside.job.given inside.progress.wholes.used c.self.invariant.0.uses c.self.invariant.0.typed_given)

pub returns-clause-typed_made : goal.returns-clause-typed_made
returns-clause-typed_made c =
    let P : ScanData → Type 0 = λ scan. AreTyped scan.nodes scan.progress.wholes.made in
    subst P c.self.view_is c.self.invariant.0.typed_made

pub returns-clause-apart_used : goal.returns-clause-apart_used
returns-clause-apart_used c =
    let P : ScanData → Type 0 = λ scan. AreOfDistinctPlans scan.progress.wholes.used in
    subst P c.self.view_is c.self.invariant.0.apart_used

pub returns-clause-apart_made : goal.returns-clause-apart_made
returns-clause-apart_made c =
    let P : ScanData → Type 0 = λ scan. AreOfDistinctPlans scan.progress.wholes.made in
    subst P c.self.view_is c.self.invariant.0.apart_made
