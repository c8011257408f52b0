use Rattle.std.proofs.Common.{subst}
use Rattle.vx_steps.specs.Held.{AreTyped}
use Rattle.vx_steps.specs.Kept.{AreOfDistinctPlans}
use Rattle.vx_steps.specs.ScanData.{ScanData}
use Rattle.vx_steps.proofs.scan.Scan.made.Goals as goal

pub returns-clause-typed : goal.returns-clause-typed
returns-clause-typed c =
    let P : ScanData → Type 0 = λ scan. AreTyped scan.nodes scan.progress.wholes.made in
    subst P c.self.view_is c.self.invariant.0.typed_made

pub returns-clause-apart : goal.returns-clause-apart
returns-clause-apart c =
    let P : ScanData → Type 0 = λ scan. AreOfDistinctPlans scan.progress.wholes.made in
    subst P c.self.view_is c.self.invariant.0.apart_made
