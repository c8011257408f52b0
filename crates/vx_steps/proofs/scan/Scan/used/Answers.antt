use Rattle.std.proofs.Common.{subst}
use Rattle.vx_steps.specs.Held.{AreTyped}
use Rattle.vx_steps.specs.Kept.{AreOfDistinctPlans}
use Rattle.vx_steps.specs.ScanData.{ScanData}
use Rattle.vx_steps.proofs.Beginning.{used_typed}
use Rattle.vx_steps.proofs.scan.Scan.used.Goals as goal

pub returns-clause-typed : goal.returns-clause-typed
returns-clause-typed c =
    let P : ScanData → Type 0 = λ scan. AreTyped scan.nodes scan.progress.wholes.used in
    let inside = c.self.inside in
    subst P c.self.view_is (used_typed inside.table.now inside.job.given inside.progress.wholes.used c.self.invariant.0.uses c.self.invariant.0.typed_given)

pub returns-clause-apart : goal.returns-clause-apart
returns-clause-apart c =
    let P : ScanData → Type 0 = λ scan. AreOfDistinctPlans scan.progress.wholes.used in
    subst P c.self.view_is c.self.invariant.0.apart_used
