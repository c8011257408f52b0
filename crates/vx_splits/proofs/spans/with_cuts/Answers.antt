use Rattle.std.proofs.Common.{◌-◌, arith, get_or}
use Rattle.std.proofs.lemmas.List.{get_or_default}
use Rattle.vx_splits.proofs.SpanCuts.{span_pushed, spans_pushed}
use Rattle.vx_splits.proofs.spans.with_cuts.Goals as goal

pub loop-place-preserved : goal.loop-place-preserved
loop-place-preserved c =
    let xs = c.args.boundaries.now in
    let place = c.loop-place.place in
    let start = get_or xs (place - 1) 0 in
    let end = get_or xs place 0 in
    span_pushed c.args.max_span (place - 1) place _ start end c.loop-place.cuts.items c.push_parts.new.cuts.items xs _
    (omega arith) (omega arith) (omega arith) (get_or_default xs (place - 1) 0 start (omega arith)) (get_or_default xs place 0 end (omega arith)) c.in_ok-push_parts.ensures c.loop-place.invariant

pub returns : goal.returns
returns c = spans_pushed c.args.max_span _ c.loop-place.cuts.items c.args.boundaries.now _ (omega arith) c.loop-place.invariant
