use Rattle.std.proofs.Common.{refl}
use Rattle.vx_chunks.proofs.WholeRuns.{lacks_values, runs_values}
use Rattle.vx_chunks.proofs.values.run_values.Goals as goal

pub returns-in_default : goal.returns-in_default
returns-in_default g c = lacks_values c.args.plans.now c.args.plan _ (g.S.SegmentSource.state c.args.source.now) (g.S.SegmentSource.state c.clear.new.self) refl c.clear.ensures

pub returns : goal.returns
returns g c =
    runs_values c.args.plans.now c.args.plan c.in-Ok.scan c.run_over-output.result c.piece_of.result (g.S.SegmentSource.state c.args.source.now) (g.S.SegmentSource.state c.run_over-output.new.source) c.requires.known (c.in-Ok.ensures {u = tt}) c.run_over-output.ensures c.piece_of.ensures
