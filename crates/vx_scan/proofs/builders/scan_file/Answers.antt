use Rattle.std.proofs.Common.{Ok, Some, None, map, ap, ◌∙◌, subst}
use Rattle.vx_scan.specs.Admission.{Begins}
use Rattle.vx_scan.specs.Settings.{scan_by}
use Rattle.vx_scan.proofs.AdmittedRows.{no_scan_rows}
use Rattle.vx_scan.proofs.Scanning.{empty_answers, lacking_answers, refused_answers, run_answers}
use Rattle.vx_scan.proofs.builders.scan_file.Goals as goal

pub returns-in-Ok-None-clause-answers : goal.returns-in-Ok-None-clause-answers
returns-in-Ok-None-clause-answers g c =
    let begun : Begins (scan_by c.args.file c.args.settings.now) (Ok None) =
    subst (Begins (scan_by c.args.file c.args.settings.now)) (c.in-Ok-None.is ∙ ap Ok c.in-Ok-None.field-0-is) c.begin.ensures in
    empty_answers (scan_by c.args.file c.args.settings.now) c.args.settings.now.idle_limit c.new.result (map g.S.SegmentSource.state c.args.sources.now)
    (no_scan_rows (scan_by c.args.file c.args.settings.now) begun.1) c.new.ensures.items

pub returns-in-Err-clause-answers : goal.returns-in-Err-clause-answers
returns-in-Err-clause-answers g c =
    refused_answers (scan_by c.args.file c.args.settings.now) c.args.settings.now.idle_limit c.in-Err.error (map g.S.SegmentSource.state c.args.sources.now) (subst (Begins (scan_by c.args.file c.args.settings.now)) c.in-Err.is c.begin.ensures)

pub returns-in_err-prepared-clause-answers : goal.returns-in_err-prepared-clause-answers
returns-in_err-prepared-clause-answers g c =
    lacking_answers (scan_by c.args.file c.args.settings.now) c.args.settings.now.idle_limit c.from_residual.result (map g.S.SegmentSource.state c.args.sources.now) c.from_residual.ensures.1

pub returns-clause-answers : goal.returns-clause-answers
returns-clause-answers g c =
    let begun : Begins (scan_by c.args.file c.args.settings.now) (Ok (Some c.in-Ok-Some.rows)) =
    subst (Begins (scan_by c.args.file c.args.settings.now)) (c.in-Ok-Some.is ∙ ap Ok c.in-Ok-Some.field-0-is) c.begin.ensures in
    run_answers (scan_by c.args.file c.args.settings.now) c.args.settings.now.idle_limit c.args.settings.now.ordered c.in_ok-prepared.prepared (c.in_ok-prepared.ensures {u = tt}) begun.work.some c.run_prepared.result
    (map g.S.SegmentSource.state c.args.sources.now) (map g.S.SegmentSource.state c.run_prepared.new.sources) c.run_prepared.ensures
