use Rattle.std.proofs.Common.{◌≡◌, ℕ, List, [], Some, false, true, subst}
use Rattle.vx_steps.specs.Needs.{Among}
use Rattle.vx_steps.specs.ReadTable.{bytes_of, IsGone}
use Rattle.vx_steps.specs.ScanData.{ScanData}
use Rattle.vx_steps.specs.Steps.{HasCame, IsReadByRest, ServesRest}
use Rattle.vx_steps.proofs.LetGo.{scan_bytes, scan_came}
use Rattle.vx_steps.proofs.RestServed.{rest_served}
use Rattle.vx_steps.proofs.scan.Scan.held.Goals as goal

pub returns-clause-bytes : goal.returns-clause-bytes
returns-clause-bytes c =
    let inside = c.self.inside in
    let P : ScanData → Type 0 = λ scan. (s : ℕ) (bytes : List ℕ) → bytes_of scan.progress.reads.wanted s ≡ Some bytes → (IsGone scan.progress.reads.stored s → ⊥) → Among s scan.progress.held in
    subst P c.self.view_is (scan_bytes inside.table.now inside.job inside.progress inside.refused c.self.invariant)

pub returns-clause-read : goal.returns-clause-read
returns-clause-read c =
    let P : ScanData → Type 0 = λ scan. scan.refused ≡ false → (s : ℕ) → Among s scan.progress.held → IsReadByRest scan.nodes scan.job scan.progress s in
    subst P c.self.view_is (λ running. (c.self.invariant.1.0 running).going.needed)

pub returns-clause-delivered : goal.returns-clause-delivered
returns-clause-delivered c =
    let P : ScanData → Type 0 = λ scan. scan.refused ≡ false → (s : ℕ) (bytes : List ℕ) → bytes_of scan.progress.reads.wanted s ≡ Some bytes → IsReadByRest scan.nodes scan.job scan.progress s → Among s scan.progress.held in
    subst P c.self.view_is (λ running. (c.self.invariant.1.0 running).going.holds)

pub returns-clause-came : goal.returns-clause-came
returns-clause-came c =
    let inside = c.self.inside in
    let P : ScanData → Type 0 = λ scan. (s : ℕ) → Among s scan.progress.held → HasCame scan.nodes scan.progress.reads.wanted scan.progress.leaves s in
    subst P c.self.view_is (scan_came inside.table.now inside.job inside.progress inside.refused c.self.invariant)

pub returns-clause-refused : goal.returns-clause-refused
returns-clause-refused c =
    let P : ScanData → Type 0 = λ scan. scan.refused ≡ true → scan.progress.held ≡ [] in
    subst P c.self.view_is (λ refused. (c.self.invariant.1.1 refused).0)

pub returns-clause-served : goal.returns-clause-served
returns-clause-served c =
    let inside = c.self.inside in
    let P : ScanData → Type 0 = λ scan. scan.refused ≡ false → ServesRest scan.nodes scan.job scan.progress in
    subst P c.self.view_is (λ running. rest_served inside.table.now c.keeps_rules.ensures inside.job inside.progress c.self.invariant.0.known (c.self.invariant.1.0 running).going)
