use Rattle.std.proofs.Common.{◌≡◌, subst, Err}
use Rattle.vx_scan.specs.Admission.{Refuses}
use Rattle.vx_scan.specs.Builders.{Building, scan_of}
use Rattle.vx_scan.proofs.builders.ScanBuilder.prepare.Goals as goal

pub returns-clause-refused : goal.returns-clause-refused
returns-clause-refused c = λ error.
    let E : Building → Type 0 = λ (b : Building). Refuses (scan_of b) error → c.prepare_file.result ≡ Err error in
    subst E c.self.view_is (c.prepare_file.ensures.refused error)
