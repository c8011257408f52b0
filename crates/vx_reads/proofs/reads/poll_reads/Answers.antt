use Rattle.vx_reads.proofs.Polling.{polled_reads}
use Rattle.vx_reads.proofs.reads.poll_reads.Goals as goal

pub returns-in-Ok : goal.returns-in-Ok
returns-in-Ok g c =
    let state = g.S.SegmentSource.state in
    polled_reads c.args.locations.now c.poll_all.result c.args.reads.now.items c.start_all.new.reads.items _ (state c.args.source.now) (state c.start_all.new.source) (state c.poll_all.new.source) c.in-Ok.ensures c.poll_all.ensures
