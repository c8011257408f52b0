use Rattle.vx_readers.specs.Readers.{reader_data}
use Rattle.vx_readers.proofs.WholeReading.{split_read}
use Rattle.vx_readers.proofs.whole_reads.read_all.Goals as goal

pub returns-in-Ok : goal.returns-in-Ok
returns-in-Ok g c =
    let state = g.S.SegmentSource.state in
    split_read c.args.idle_limit c.read_pieces.result (reader_data c.args.reader.now) c.args.rows.start c.args.rows.end c.args.projection.now c.in_ok-mask.mask c.in-Ok.state.evaluation (state c.args.source.now) (state c.read_pieces.new.source) c.in_ok-mask.ensures c.requires.forwards c.requires.inside c.in-Ok.ensures c.read_pieces.ensures
