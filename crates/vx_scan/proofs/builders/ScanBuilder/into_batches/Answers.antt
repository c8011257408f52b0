use Rattle.std.proofs.Common.{◌≡◌, [], map, subst, Err}
use Rattle.std.specs.Prelude.{IfOk, IsOk}
use Rattle.vx_scan.specs.Answer.{row_count}
use Rattle.vx_scan.specs.Admission.{Refuses}
use Rattle.vx_scan.specs.Builders.{Building, scan_of}
use Rattle.vx_scan.specs.Valid.{HasRows, IsBound}
use Rattle.vx_scan.proofs.builders.ScanBuilder.into_batches.Goals as goal

pub returns-clause-empty : goal.returns-clause-empty
returns-clause-empty g c =
    let E : Building → Type 0 = λ (b : Building). IsBound (scan_of b) → (HasRows b.range (row_count (scan_of b)) → ⊥) →
    IfOk c.scan_file.result (λ batches. batches.items ≡ []) × IsOk c.scan_file.result × (map g.S.SegmentSource.state c.scan_file.new.sources ≡ map g.S.SegmentSource.state c.args.sources.now) in
    subst E c.self.view_is c.scan_file.ensures.empty

pub returns-clause-refused : goal.returns-clause-refused
returns-clause-refused g c = λ error.
    let E : Building → Type 0 = λ (b : Building). Refuses (scan_of b) error → (c.scan_file.result ≡ Err error) × (map g.S.SegmentSource.state c.scan_file.new.sources ≡ map g.S.SegmentSource.state c.args.sources.now) in
    subst E c.self.view_is (c.scan_file.ensures.refused error)
