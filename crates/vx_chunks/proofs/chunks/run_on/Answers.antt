use Rattle.std.proofs.Common.{◌≤◌, arith}
use Rattle.vx_chunks.specs.Outcomes.{data_of}
use Rattle.vx_chunks.proofs.EmptyChunks.{runs_bare}
use Rattle.vx_chunks.proofs.chunks.run_on.Goals as goal

pub returns : goal.returns
returns g c =
    let none : c.args.chosen.now.scope.rows.end ≤ c.args.chosen.now.scope.rows.start = omega (arith, c.if-chosen.false) in
    runs_bare c.args.plans.now c.args.chosen.now c.args.handed c.new.result (data_of c.args.given.items) c.run_lent-piece.result (g.S.SegmentSource.state c.args.source.now) (g.S.SegmentSource.state c.run_lent-piece.new.source) c.requires.chunk none c.requires.handed c.new.ensures.items c.run_lent-piece.ensures
