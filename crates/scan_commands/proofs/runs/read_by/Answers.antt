use Rattle.scan_commands.proofs.ReadEnds.{reads_first}
use Rattle.scan_commands.proofs.runs.read_by.Goals as goal

pub returns : goal.returns
returns g c =
    reads_first g.S.SegmentSource.state c.args.idle_limit c.status.result c.read.result (g.Q.Source.state c.args.request.now) (g.Q.Source.state c.read.new.request) (g.K.Sink.state c.args.out.now) (g.K.Sink.state c.read.new.out)
    c.args.sources.now c.index-sources-0.result c.read.new.source c.requires.some c.status.ensures c.read.ensures.pieces c.read.ensures.reads
