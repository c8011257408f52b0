use Rattle.scan_output.specs.RowWriting.{batch_lines}
use Rattle.scan_output.proofs.SideBySides.{none_lacks}
use Rattle.scan_output.proofs.side_by_side.write_group.Goals as goal

pub returns-in-Err : goal.returns-in-Err
returns-in-Err g c = none_lacks (batch_lines c.args.group.now) (g.K.Sink.state c.args.out.now)
