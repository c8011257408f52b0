use Rattle.std.proofs.Common.{ap}
use Rattle.scan_output.specs.RowWriting.{batch_lines}
use Rattle.scan_request.specs.RequestViews.{asked_of}
use Rattle.scan_request.proofs.OneRequest.{projection_is_bound}
use Rattle.scan_commands.proofs.ReadEnds.{columns_end, ends_without_rows, reads_at_once}
use Rattle.scan_commands.proofs.read_runs.read.Goals as goal

pub columns_of-requires-clause-some : goal.columns_of-requires-clause-some
columns_of-requires-clause-some g c = c.in-Ok.ensures.gives.are.good.nonempty

pub columns_of-requires-clause-bound : goal.columns_of-requires-clause-bound
columns_of-requires-clause-bound g c = projection_is_bound c.in-Ok.ensures.gives.bytes (asked_of c.in-Ok.request) c.in-Ok.ensures.gives.are

pub returns-in-Err-clause-reads : goal.returns-in-Err-clause-reads
returns-in-Err-clause-reads g c = reads_at_once c.args.idle_limit c.in-Err.ending _ _ _ _ (c.in-Err.ensures.gives (g.K.Sink.state c.args.out.now))

pub returns-in-Err-columns_of-clause-reads : goal.returns-in-Err-columns_of-clause-reads
returns-in-Err-columns_of-clause-reads g c =
    ends_without_rows c.args.idle_limit c.in-Err-columns_of.ending (asked_of c.in-Ok.request) _ _ _ _ _ c.in-Ok.ensures.gives c.in-Err-columns_of.ensures

pub returns-clause-reads : goal.returns-clause-reads
returns-clause-reads g c =
    columns_end c.args.idle_limit c.of_writing.result c.write_batches-written.result (asked_of c.in-Ok.request) c.in-Ok-columns_of.columns (batch_lines c.deref.result.now) _ _ _ _ _ _ c.of_writing.ensures (ap batch_lines c.deref.ensures.value) c.in-Ok.ensures.gives c.in-Ok-columns_of.ensures
    c.write_batches-written.ensures
