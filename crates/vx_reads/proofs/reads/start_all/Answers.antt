use Rattle.std.proofs.Common.{Some, arith, ◌≡◌, refl, sym, ◌∙◌, length}
use Rattle.std.specs.List.{slice_get}
use Rattle.std.proofs.lemmas.Option.{slice_get_read}
use Rattle.vx_reads.specs.Reads.{AreAsked}
use Rattle.vx_reads.proofs.Going.{begins, goes_then}
use Rattle.vx_reads.proofs.OneRead.{go_start, none_started}
use Rattle.vx_reads.proofs.Stopping.{stop_start}
use Rattle.vx_reads.proofs.Counting.{asked_all, asked_more, asks_more, same_count}
use Rattle.vx_reads.proofs.reads.start_all.Goals as goal

pub returns-in-Err : goal.returns-in-Err
returns-in-Err g c =
    let state = g.S.SegmentSource.state in
    let many = same_count c.loop-place.reads.items c.args.reads.now.items c.loop-place.invariant.goes.segments in
    let at : slice_get c.loop-place.reads.items c.loop-place.place ≡ Some c.index_mut.result.now = slice_get_read c.loop-place.reads.items _ c.loop-place.place c.index_mut.result.now refl (omega (arith, many, c.len-place-end.ensures, c.loop-place-test.true)) c.index_mut.ensures.value in
    stop_start c.args.locations.now c.args.reads.now.items c.loop-place.reads.items c.loop-place.place c.index_mut.result.now c.start.new.self c.in-Err.error (state c.args.source.now) (state c.loop-place.source) (state c.start.new.source) c.loop-place.invariant.goes c.loop-place.invariant.none at c.in-Err.ensures

pub loop-place-preserved : goal.loop-place-preserved
loop-place-preserved g c =
    let state = g.S.SegmentSource.state in
    let many = same_count c.loop-place.reads.items c.args.reads.now.items c.loop-place.invariant.goes.segments in
    let at : slice_get c.loop-place.reads.items c.loop-place.place ≡ Some c.index_mut.result.now = slice_get_read c.loop-place.reads.items _ c.loop-place.place c.index_mut.result.now refl (omega (arith, many, c.len-place-end.ensures, c.loop-place-test.true)) c.index_mut.ensures.value in
    record {
      goes = goes_then c.args.locations.now c.args.reads.now.items c.loop-place.reads.items _ (state c.args.source.now) (state c.loop-place.source) (state c.start.new.source) c.loop-place.invariant.goes
          (go_start c.args.locations.now c.loop-place.reads.items c.loop-place.place c.index_mut.result.now c.start.new.self (state c.loop-place.source) (state c.start.new.source) at c.loop-place.invariant.goes.in_flight c.in-Ok.ensures);
      none = none_started c.args.locations.now c.args.reads.now.items c.loop-place.reads.items c.loop-place.place c.index_mut.result.now c.start.new.self (state c.loop-place.source) (state c.start.new.source) at c.in-Ok.ensures c.loop-place.invariant.none;
      asked = asked_more c.args.locations.now c.loop-place.reads.items c.loop-place.place c.index_mut.result.now c.start.new.self (state c.loop-place.source) (state c.start.new.source) at c.in-Ok.ensures c.loop-place.invariant.asked;
      asks = asks_more c.args.locations.now c.loop-place.reads.items c.loop-place.place c.index_mut.result.now c.start.new.self (state c.loop-place.source) (state c.start.new.source) at c.loop-place.invariant.asked c.in-Ok.ensures ∙ c.loop-place.invariant.asks;
    }

pub loop-place-init : goal.loop-place-init
loop-place-init g c = record {
  goes = begins c.args.locations.now c.args.reads.now.items (g.S.SegmentSource.state c.args.source.now) c.requires;
  none = λ j under came. came;
  asked = λ j lt. absurd (omega arith);
  asks = refl;
}

pub returns : goal.returns
returns g c =
    let state = g.S.SegmentSource.state in
    let many = same_count c.loop-place.reads.items c.args.reads.now.items c.loop-place.invariant.goes.segments in
    let all : AreAsked (length c.loop-place.reads.items) c.loop-place.reads.items = λ j lt. c.loop-place.invariant.asked j (omega (arith, many, c.len-place-end.ensures, c.loop-place-test.false)) in
    record {
      goes = c.loop-place.invariant.goes;
      none = c.loop-place.invariant.none;
      asked = all;
      asks = sym (asked_all c.args.locations.now c.loop-place.reads.items (state c.loop-place.source).asked all) ∙ c.loop-place.invariant.asks;
    }
