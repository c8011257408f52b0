use Rattle.std.proofs.Common.{map, subst}
use Rattle.vx_steps.specs.Held.{AreTyped}
use Rattle.vx_steps.specs.Kept.{kept_data}
use Rattle.vx_steps.specs.Leavings.{IsReadBehind}
use Rattle.vx_steps.specs.Offers.{Keeps}
use Rattle.vx_steps.specs.ScanData.{ScanData}
use Rattle.vx_steps.proofs.Offering.{typed_those}
use Rattle.vx_steps.proofs.scan.Scan.into_leaves.Goals as goal

pub returns-clause-leaves : goal.returns-clause-leaves
returns-clause-leaves c =
    let P : ScanData → Type 0 = λ scan. Keeps (λ kept. IsReadBehind scan.nodes scan.job kept.node) scan.progress.leaves (map kept_data c.leaves_behind-leaves.result.items) in
    let inside = c.self.inside in
    subst P c.self.view_is c.leaves_behind-leaves.ensures

pub returns-clause-typed : goal.returns-clause-typed
returns-clause-typed c =
    let inside = c.self.inside in
    let P : ScanData → Type 0 = λ scan. AreTyped scan.nodes (map kept_data c.leaves_behind-leaves.result.items) in
    subst P c.self.view_is (typed_those inside.table.now (IsReadBehind inside.table.now inside.job) inside.progress.store.columns.all (map kept_data c.leaves_behind-leaves.result.items) c.leaves_behind-leaves.ensures c.self.invariant.0.typed_leaves)
