use Rattle.std.proofs.Common.{◌∙◌}
use Rattle.scan_commands.proofs.Running.{scans_by}
use Rattle.scan_commands.proofs.runs.scan_by.Goals as goal

pub returns : goal.returns
returns g c =
    let own = c.split_at_mut-own in
    scans_by g.S.SegmentSource.state c.args.workers c.args.idle_limit c.status.result c.serve.result (g.Q.Source.state c.args.request.now) (g.Q.Source.state c.serve.new.request) (g.K.Sink.state c.args.out.now) (g.K.Sink.state c.serve.new.out)
    c.args.sources.now own.result.0.now c.serve.new.sources own.result.1.now own.ensures.front own.ensures.back (c.serve.auto.sources ∙ own.ensures.front_len) c.status.ensures c.serve.ensures.pieces c.serve.ensures.ends
