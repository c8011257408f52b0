use Rattle.std.proofs.Common.{◌∙◌, rules, subst}
use Rattle.vx_steps.specs.ScanData.{ScanData}
use Rattle.vx_io.specs.Tables.{session_state}
use Rattle.vx_drive.specs.Adaptors.{adaptor_data}
use Rattle.vx_drive.specs.Finished.{LeavesKept}
use Rattle.vx_drive.proofs.ClearedRuns.{finishes}
use Rattle.vx_drive.proofs.runs.run_over.Goals as goal

pub returns : goal.returns
returns g c =
    let left : LeavesKept c.into_scan.result c.into_kept.result =
    record { leaves = c.into_kept.ensures.leaves; used = c.into_kept.ensures.used; made = c.into_kept.ensures.made; uses = c.into_kept.ensures.uses; typed_leaves = c.into_kept.ensures.typed_leaves; typed_made = c.into_kept.ensures.typed_made; apart_made = c.into_kept.ensures.apart_made } in
    finishes c.args.plans.now.locations.items c.new-adaptor.result.locations.now c.args.plans.now.idle_limit c.args.scan (adaptor_data c.new-adaptor.result).scan (adaptor_data c.run-output.new.adaptor).scan
    (record { output = c.run-output.result; kept = c.into_kept.result }) (g.S.SegmentSource.state c.args.source.now) (session_state c.new-session.result).source (session_state c.run-output.new.session).source (session_state c.clear.new.self).source _
    (c.new-adaptor.ensures.locations ∙ c.as_slice.ensures.value) c.new-adaptor.ensures.scan c.new-session.ensures.cleared c.run-output.ensures.gives c.clear.ensures.cleared (search rules)
    (subst (λ (scan : ScanData). LeavesKept scan c.into_kept.result) c.into_scan.ensures left)
