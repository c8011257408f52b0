use Rattle.scan_output.proofs.Buffering.{full_gives}
use Rattle.scan_output.proofs.row_writing.write_full.Goals as goal

pub returns-in-Err : goal.returns-in-Err
returns-in-Err g c = full_gives c.in-Err.error c.args.buffer.now.items c.deref.result.now c.args.buffer.now.items (g.K.Sink.state c.args.out.now) (g.K.Sink.state c.write_all.new.out) c.deref.ensures.value c.in-Err.ensures
