use Rattle.std.proofs.Common.{Some, arith, ◌≡◌, ◌≤◌, refl, ap, ◌∙◌}
use Rattle.std.specs.List.{slice_get}
use Rattle.std.proofs.lemmas.Option.{slice_get_read}
use Rattle.std.proofs.lemmas.List.{take_all}
use Rattle.vx_reads.specs.Reads.{waiting_in}
use Rattle.vx_reads.proofs.Going.{goes_then}
use Rattle.vx_reads.proofs.OneRead.{at_source, go_poll, none_polled}
use Rattle.vx_reads.proofs.Stopping.{stop_poll}
use Rattle.vx_reads.proofs.Counting.{asked_polled, polled_count, quiet_poll, same_count}
use Rattle.vx_reads.proofs.reads.poll_all.Goals.{then-goes_on, else-goes_on}
use Rattle.vx_reads.proofs.reads.poll_all.Goals as goal

pub poll-requires : goal.poll-requires
poll-requires g c =
    let state = g.S.SegmentSource.state in
    let many = same_count c.loop-place.reads.items c.args.reads.now.items c.loop-place.invariant.goes.segments in
    let at : slice_get c.loop-place.reads.items c.loop-place.place ≡ Some c.index_mut.result.now = slice_get_read c.loop-place.reads.items _ c.loop-place.place c.index_mut.result.now refl (omega (arith, many, c.len-place-end.ensures, c.loop-place-test.true)) c.index_mut.ensures.value in
    at_source c.args.locations.now c.loop-place.reads.items (state c.loop-place.source) c.loop-place.place c.index_mut.result.now c.loop-place.invariant.goes.in_flight at

pub returns-in-Err : goal.returns-in-Err
returns-in-Err g c =
    let state = g.S.SegmentSource.state in
    let many = same_count c.loop-place.reads.items c.args.reads.now.items c.loop-place.invariant.goes.segments in
    let at : slice_get c.loop-place.reads.items c.loop-place.place ≡ Some c.index_mut.result.now = slice_get_read c.loop-place.reads.items _ c.loop-place.place c.index_mut.result.now refl (omega (arith, many, c.len-place-end.ensures, c.loop-place-test.true)) c.index_mut.ensures.value in
    stop_poll c.args.locations.now c.args.reads.now.items c.loop-place.reads.items c.loop-place.place c.index_mut.result.now c.poll.new.self c.in-Err.error (state c.args.source.now) (state c.loop-place.source) (state c.poll.new.source) c.loop-place.invariant.goes c.loop-place.invariant.none at c.in-Err.ensures

pub loop-place-preserved : goal.loop-place-preserved
loop-place-preserved g c =
    let state = g.S.SegmentSource.state in
    let many = same_count c.loop-place.reads.items c.args.reads.now.items c.loop-place.invariant.goes.segments in
    let at : slice_get c.loop-place.reads.items c.loop-place.place ≡ Some c.index_mut.result.now = slice_get_read c.loop-place.reads.items _ c.loop-place.place c.index_mut.result.now refl (omega (arith, many, c.len-place-end.ensures, c.loop-place-test.true)) c.index_mut.ensures.value in
    let went = go_poll c.args.locations.now c.loop-place.reads.items c.loop-place.place c.index_mut.result.now c.poll.new.self c.in-Ok.goes_on (state c.loop-place.source) (state c.poll.new.source) at c.loop-place.invariant.goes.in_flight c.in-Ok.ensures in
    let counted = polled_count c.loop-place.reads.items c.loop-place.place c.index_mut.result.now c.poll.new.self c.in-Ok.goes_on (state c.args.source.now) (state c.loop-place.source) (state c.poll.new.source) at c.in-Ok.ensures c.loop-place.waiting c.loop-place.invariant.count c.loop-place.invariant.waited in
    let few : c.loop-place.waiting ≤ c.loop-place.place = c.loop-place.invariant.few in
    elim c.if-goes_on.branch [
      | then-goes_on w ↦ (let more = counted.0 w.if-goes_on.true in let same = w.waiting-is in record {
        goes = goes_then c.args.locations.now c.args.reads.now.items c.loop-place.reads.items _ (state c.args.source.now) (state c.loop-place.source) (state c.poll.new.source) c.loop-place.invariant.goes went;
        none = none_polled c.args.reads.now.items c.loop-place.reads.items c.loop-place.place c.index_mut.result.now c.poll.new.self at c.loop-place.invariant.none;
        quiet = quiet_poll c.index_mut.result.now c.poll.new.self c.in-Ok.goes_on (state c.loop-place.source) (state c.poll.new.source) c.in-Ok.ensures ∙ c.loop-place.invariant.quiet;
        asked = λ before. asked_polled c.loop-place.reads.items c.loop-place.place c.index_mut.result.now c.poll.new.self c.in-Ok.goes_on (state c.loop-place.source) (state c.poll.new.source) at c.in-Ok.ensures (c.loop-place.invariant.asked before);
        count = same ∙ more.0;
        waited = rw same more.1;
        few = omega arith;
      })
      | else-goes_on w ↦ (let more = counted.1 w.if-goes_on.false in let same = w.waiting-is in record {
        goes = goes_then c.args.locations.now c.args.reads.now.items c.loop-place.reads.items _ (state c.args.source.now) (state c.loop-place.source) (state c.poll.new.source) c.loop-place.invariant.goes went;
        none = none_polled c.args.reads.now.items c.loop-place.reads.items c.loop-place.place c.index_mut.result.now c.poll.new.self at c.loop-place.invariant.none;
        quiet = quiet_poll c.index_mut.result.now c.poll.new.self c.in-Ok.goes_on (state c.loop-place.source) (state c.poll.new.source) c.in-Ok.ensures ∙ c.loop-place.invariant.quiet;
        asked = λ before. asked_polled c.loop-place.reads.items c.loop-place.place c.index_mut.result.now c.poll.new.self c.in-Ok.goes_on (state c.loop-place.source) (state c.poll.new.source) at c.in-Ok.ensures (c.loop-place.invariant.asked before);
        count = same ∙ more.0;
        waited = rw same more.1;
        few = omega arith;
      })
    ]

pub returns : goal.returns
returns g c =
    let many = same_count c.loop-place.reads.items c.args.reads.now.items c.loop-place.invariant.goes.segments in
    let all = take_all c.loop-place.place c.loop-place.reads.items (omega (arith, many, c.len-place-end.ensures, c.loop-place-test.false)) in
    record {
      goes = c.loop-place.invariant.goes;
      quiet = c.loop-place.invariant.quiet;
      asked = c.loop-place.invariant.asked;
      count = c.loop-place.invariant.count ∙ ap waiting_in all;
      waited = c.loop-place.invariant.waited;
    }
