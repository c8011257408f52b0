use Rattle.std.proofs.Common.{◌≡◌, ◌∙◌, ◌++◌, List, [], ap, refl, subst, sym}
use Rattle.vx_plan.specs.Nodes.{Node}
use Rattle.vx_steps.specs.declared.kept.KeptValue.{KeptValue}
use Rattle.vx_steps.specs.Kept.{AreOfDistinctPlans}
use Rattle.vx_steps.specs.KeptData.{Kept}
use Rattle.vx_steps.specs.Offers.{IsForLeaf, IsForPlan, Keeps}
use Rattle.vx_steps.specs.ScanData.{ScanData}
use Rattle.vx_chunks.specs.ChunkScans.{IsChunkScan}
use Rattle.vx_chunks.specs.Outcomes.{data_of, HasOwn}
use Rattle.vx_chunks.proofs.ChunkScanning.{leaves_unstarted, with_given, with_handed}
use Rattle.vx_chunks.proofs.HandedRuns.{lacks_only, runs_on}
use Rattle.vx_chunks.proofs.chunks.run_lent.Goals as goal

pub run_over-output-requires-clause-unread : goal.run_over-output-requires-clause-unread
run_over-output-requires-clause-unread g c =
    let leaves : List Kept = c.with_leaves.result.progress.leaves in
    let made : List Kept = c.with_made.result.progress.wholes.made in
    let scan = c.in-Ok-scan_of.ensures {u = tt} in
    let unstarted = leaves_unstarted leaves c.in-Ok-scan_of.scan c.with_leaves.result scan.unstarted c.with_leaves.ensures.others in
    let first = with_handed c.args.plans.now c.args.chosen.now leaves made c.in-Ok-scan_of.scan c.with_leaves.result c.with_made.result scan c.with_leaves.ensures.others c.with_made.ensures.others (c.with_made.ensures.told unstarted) in
    (with_given c.args.plans.now c.args.chosen.now (data_of c.in-Ok.given.items) c.with_value_cache-scan.result.job.given leaves made c.with_made.result c.with_value_cache-scan.result first (c.with_value_cache-scan.ensures.given first.unstarted) c.with_value_cache-scan.ensures.others c.with_value_cache-scan.ensures.told).unread

pub returns : goal.returns
returns g c =
    let scan = c.in-Ok-scan_of.ensures {u = tt} in
    let leaves : List Kept = c.with_leaves.result.progress.leaves in
    let made : List Kept = c.with_made.result.progress.wholes.made in
    let given : List Kept = c.with_value_cache-scan.result.job.given in
    let unstarted = leaves_unstarted leaves c.in-Ok-scan_of.scan c.with_leaves.result scan.unstarted c.with_leaves.ensures.others in
    let first : IsChunkScan c.args.plans.now c.args.chosen.now [] leaves made c.with_made.result =
    with_handed c.args.plans.now c.args.chosen.now leaves made c.in-Ok-scan_of.scan c.with_leaves.result c.with_made.result scan c.with_leaves.ensures.others c.with_made.ensures.others (c.with_made.ensures.told unstarted) in
    let is = with_given c.args.plans.now c.args.chosen.now (data_of c.in-Ok.given.items) given leaves made c.with_made.result c.with_value_cache-scan.result first (c.with_value_cache-scan.ensures.given first.unstarted) c.with_value_cache-scan.ensures.others c.with_value_cache-scan.ensures.told in
    let fits_leaves : Keeps (IsForLeaf c.args.plans.now.table) (data_of c.args.handed.leaves.items) leaves =
    subst (λ (ns : List Node). Keeps (IsForLeaf ns) (data_of c.args.handed.leaves.items) leaves) scan.nodes (c.with_leaves.ensures.leaves scan.unstarted) in
    let nodes : c.with_leaves.result.nodes ≡ c.args.plans.now.table = ap (λ (s : ScanData). s.nodes) c.with_leaves.ensures.others ∙ scan.nodes in
    let fits_made : Keeps (IsForPlan c.args.plans.now.table) (data_of c.args.handed.made.items) made =
    subst (λ (ns : List Node). Keeps (IsForPlan ns) (data_of c.args.handed.made.items) made) nodes (c.with_made.ensures.made unstarted) in
    let stood : HasOwn c.args.plans.now c.args.chosen.now (data_of c.args.given.items) (data_of c.args.handed.made.items) (data_of c.in-Ok.given.items) =
    subst (λ (values : List KeptValue). HasOwn c.args.plans.now c.args.chosen.now (data_of c.args.given.items) (data_of values) (data_of c.in-Ok.given.items)) c.as_slice.ensures.value c.in-Ok.ensures in
    let fits : Keeps (IsForPlan c.args.plans.now.table) (data_of c.args.given.items ++ stood.own) given =
    subst (λ (values : List Kept). Keeps (IsForPlan c.args.plans.now.table) values given) stood.is
    (subst (λ (ns : List Node). Keeps (IsForPlan ns) (data_of c.in-Ok.given.items) given) first.nodes (c.with_value_cache-scan.ensures.given first.unstarted)) in
    let kept = c.run_over-output.ensures.kept in
    let apart : AreOfDistinctPlans (data_of c.run_over-output.result.kept.made.items) = subst AreOfDistinctPlans (sym kept.made) kept.apart_made in
    runs_on c.args.plans.now c.args.chosen.now c.args.handed (data_of c.args.given.items) stood.own given leaves made c.with_value_cache-scan.result c.run_over-output.result
    (record { piece = c.piece_of.result; handed = record { leaves = c.run_over-output.result.kept.leaves; made = c.run_over-output.result.kept.made } }) (g.S.SegmentSource.state c.args.source.now) (g.S.SegmentSource.state c.run_over-output.new.source) c.requires.chunk c.requires.lends c.requires.handed stood.are fits fits_leaves fits_made is c.run_over-output.ensures c.piece_of.ensures refl refl apart

pub returns-in_default : goal.returns-in_default
returns-in_default g c =
    lacks_only c.args.plans.now c.args.chosen.now c.args.handed (data_of c.args.given.items) (record { piece = _; handed = c.args.handed }) (g.S.SegmentSource.state c.args.source.now) (g.S.SegmentSource.state c.clear.new.self) c.requires.handed refl refl c.clear.ensures

pub returns-in_default-scan_of : goal.returns-in_default-scan_of
returns-in_default-scan_of g c =
    lacks_only c.args.plans.now c.args.chosen.now c.args.handed (data_of c.args.given.items) (record { piece = _; handed = c.args.handed }) (g.S.SegmentSource.state c.args.source.now) (g.S.SegmentSource.state c.clear-in_default-scan_of.new.self) c.requires.handed refl refl c.clear-in_default-scan_of.ensures
