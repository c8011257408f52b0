use Rattle.std.proofs.Common.{List, [], refl, subst}
use Rattle.vx_plan.specs.Nodes.{Node}
use Rattle.vx_steps.specs.Offers.{IsForPlan, Keeps}
use Rattle.vx_chunks.specs.Outcomes.{data_of}
use Rattle.vx_chunks.proofs.ChunkOutcomes.{lacks_chunk, runs_chunk}
use Rattle.vx_chunks.proofs.ChunkScanning.{with_given}
use Rattle.vx_chunks.proofs.chunks.run_chunk.Goals as goal

pub returns-in_default : goal.returns-in_default
returns-in_default g c =
    lacks_chunk c.args.plans.now c.args.chosen.now (data_of c.args.given.items) (record { piece = _; used = c.new.result; made = c.new-in_default.result }) (g.S.SegmentSource.state c.args.source.now) (g.S.SegmentSource.state c.clear.new.self) refl c.new.ensures.items c.new-in_default.ensures.items c.clear.ensures

pub run_over-output-requires-clause-unread : goal.run_over-output-requires-clause-unread
run_over-output-requires-clause-unread g c =
    (with_given c.args.plans.now c.args.chosen.now (data_of c.args.given.items) c.with_value_cache.result.job.given [] [] c.in-Ok.scan c.with_value_cache.result (c.in-Ok.ensures {u = tt}) (c.with_value_cache.ensures.given (c.in-Ok.ensures {u = tt}).unstarted) c.with_value_cache.ensures.others c.with_value_cache.ensures.told).unread

pub returns : goal.returns
returns g c =
    let scan = c.in-Ok.ensures {u = tt} in
    let is = with_given c.args.plans.now c.args.chosen.now (data_of c.args.given.items) c.with_value_cache.result.job.given [] [] c.in-Ok.scan c.with_value_cache.result scan (c.with_value_cache.ensures.given scan.unstarted) c.with_value_cache.ensures.others c.with_value_cache.ensures.told in
    let fits : Keeps (IsForPlan c.args.plans.now.table) (data_of c.args.given.items) c.with_value_cache.result.job.given =
    subst (λ (ns : List Node). Keeps (IsForPlan ns) (data_of c.args.given.items) c.with_value_cache.result.job.given) scan.nodes (c.with_value_cache.ensures.given scan.unstarted) in
    runs_chunk c.args.plans.now c.args.chosen.now (data_of c.args.given.items) c.with_value_cache.result.job.given c.with_value_cache.result c.run_over-output.result
    (record { piece = c.piece_of.result; used = c.run_over-output.result.kept.used; made = c.run_over-output.result.kept.made }) (g.S.SegmentSource.state c.args.source.now) (g.S.SegmentSource.state c.run_over-output.new.source) fits is c.run_over-output.ensures c.piece_of.ensures refl refl
