use Rattle.std.proofs.Common.{◌≡◌, None, rules}
use Rattle.vx_io.specs.Session.{waiting_reads}
use Rattle.vx_io.proofs.TakenReads.{fetches_announced}
use Rattle.vx_io.proofs.waiting.WaitingReads.fetch.Goals as goal

pub returns-in-None : goal.returns-in-None
returns-in-None g c =
    let none : c.args.self.now.prefetched ≡ None = search rules in
    fetches_announced c.args.at c.take_announced.result c.args.self.now.announced.items c.args.self.now.prefetched (g.S.SegmentSource.state c.args.source.now) (waiting_reads c.take_announced.new.self) (g.S.SegmentSource.state c.take_announced.new.source) none (search rules)
