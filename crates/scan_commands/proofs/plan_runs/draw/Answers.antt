use Rattle.scan_request.specs.RequestViews.{asked_of}
use Rattle.scan_request.proofs.OneRequest.{projection_is_bound}
use Rattle.scan_commands.proofs.Drawing.{draws_at_once, lacks_text, text_ends}
use Rattle.scan_commands.proofs.plan_runs.draw.Goals as goal

pub text_of-requires : goal.text_of-requires
text_of-requires g c = projection_is_bound c.in-Ok.ensures.gives.bytes (asked_of c.in-Ok.request) c.in-Ok.ensures.gives.are

pub returns-in-Err-clause-draws : goal.returns-in-Err-clause-draws
returns-in-Err-clause-draws g c = draws_at_once c.in-Err.ending _ _ (c.in-Err.ensures.gives (g.K.Sink.state c.args.out.now))

pub returns-in-Err-text_of-clause-draws : goal.returns-in-Err-text_of-clause-draws
returns-in-Err-text_of-clause-draws g c = lacks_text (asked_of c.in-Ok.request) _ _ _ c.in-Ok.ensures.gives

pub returns-clause-draws : goal.returns-clause-draws
returns-clause-draws g c =
    text_ends c.of_writing.result c.write_all.result (asked_of c.in-Ok.request) c.in-Ok-text_of.text.items c.deref.result.now _ _ _ _ c.of_writing.ensures c.deref.ensures.value c.in-Ok.ensures.gives c.in-Ok-text_of.ensures c.write_all.ensures
