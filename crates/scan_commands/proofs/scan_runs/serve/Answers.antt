use Rattle.std.proofs.Common.{ap}
use Rattle.scan_request.specs.RequestViews.{asked_of}
use Rattle.scan_output.specs.RowWriting.{batch_lines}
use Rattle.scan_commands.proofs.Serving.{ends_at_once, rows_end, scan_fails}
use Rattle.scan_commands.proofs.scan_runs.serve.Goals as goal

pub returns-in-Err-clause-ends : goal.returns-in-Err-clause-ends
returns-in-Err-clause-ends g c = ends_at_once c.args.idle_limit c.in-Err.ending _ _ _ _ (c.in-Err.ensures.gives (g.K.Sink.state c.args.out.now))

pub returns-in-Err-batches_of-clause-ends : goal.returns-in-Err-batches_of-clause-ends
returns-in-Err-batches_of-clause-ends g c =
    scan_fails c.args.idle_limit c.of_scan.result c.in-Err-batches_of.error (asked_of c.in-Ok.request) _ _ _ _ _ c.of_scan.ensures c.in-Ok.ensures.gives c.in-Err-batches_of.ensures

pub returns-clause-ends : goal.returns-clause-ends
returns-clause-ends g c =
    rows_end c.args.idle_limit c.of_writing.result c.write_by-written.result (asked_of c.in-Ok.request) c.in-Ok-batches_of.batches (batch_lines c.deref.result.now) _ _ _ _ _ _ c.of_writing.ensures (ap batch_lines c.deref.ensures.value) c.in-Ok.ensures.gives c.in-Ok-batches_of.ensures
    c.write_by-written.ensures
