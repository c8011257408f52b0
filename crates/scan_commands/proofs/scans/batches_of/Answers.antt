use Rattle.std.proofs.Common.{◌≡◌, ℕ, ◌⊎◌, Err, map, sym, subst, inl}
use Rattle.vx_scan.specs.Answer.{FileScan}
use Rattle.vx_scan.specs.Admission.{Refuses}
use Rattle.vx_scan.specs.declared.errors.ScanError.{ScanError}
use Rattle.vx_scan.specs.declared.errors.ScanError.TheVariants.{Memory}
use Rattle.vx_scan.specs.Scanned.{AnswersScan}
use Rattle.scan_request.specs.RequestViews.{asked_of}
use Rattle.scan_commands.specs.Scans.{scan_of}
use Rattle.scan_commands.proofs.Scanning.{lacks_memory, scan_gives}
use Rattle.scan_commands.proofs.scans.batches_of.Goals as goal

pub returns-in-Ok : goal.returns-in-Ok
returns-in-Ok g c =
    let scan = scan_of (asked_of c.args.request) in
    let result = c.into_batches.result in
    let olds = map g.S.SegmentSource.state c.args.sources.now in
    let news = map g.S.SegmentSource.state c.into_batches.new.sources in
    let answers : AnswersScan scan c.args.idle_limit result olds news =
    subst (λ (n : ℕ). AnswersScan scan n result olds news) c.in-Ok.ensures.limit
    (subst (λ (s : FileScan). AnswersScan s c.in-Ok.builder.idle_limit result olds news) c.in-Ok.ensures.scan c.into_batches.ensures.answers) in
    let refused : (error : ScanError) → Refuses scan error → ((result ≡ Err error) ⊎ (result ≡ Err Memory)) × (news ≡ olds) =
    λ error refuses. let first = c.into_batches.ensures.refused error (subst (λ (s : FileScan). Refuses s error) (sym c.in-Ok.ensures.scan) refuses) in (inl first.0, first.1) in
    scan_gives c.args.idle_limit scan result olds news c.pieces_are_the_answer.ensures.answer answers refused

pub returns-in-Err : goal.returns-in-Err
returns-in-Err g c = lacks_memory c.args.idle_limit (scan_of (asked_of c.args.request)) (map g.S.SegmentSource.state c.args.sources.now)
