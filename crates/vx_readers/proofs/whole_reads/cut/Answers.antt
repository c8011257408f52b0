use Rattle.std.proofs.Common.{◌≤◌, length, arith}
use Rattle.vx_readers.specs.WholeReads.{IsPartOf}
use Rattle.vx_readers.proofs.Cutting.{cuts_first, cuts_next, cuts_room}
use Rattle.vx_readers.proofs.WholeReading.{gathers_all}
use Rattle.vx_readers.proofs.whole_reads.cut.Goals as goal

pub loop-place-init : goal.loop-place-init
loop-place-init c = cuts_first c.args.whole c.in_ok-rest.rest c.args.splits.now c.new-columns.result.items c.in_ok-rest.ensures c.new-columns.ensures.items c.requires.first

pub next_rows-requires : goal.next_rows-requires
next_rows-requires c = cuts_room c.args.whole c.loop-place.rest c.args.splits.now c.loop-place.place c.loop-place.columns.items c.requires.within c.loop-place.auto.place c.loop-place-test.true c.loop-place.invariant

pub loop-place-preserved : goal.loop-place-preserved
loop-place-preserved c =
    cuts_next c.args.whole c.loop-place.rest c.next_rows.new.self c.in_ok-part.part c.args.splits.now c.loop-place.place c.loop-place.columns.items c.push.new.self.items c.requires.within c.loop-place.auto.place c.loop-place-test.true c.in_ok-push.ensures.items c.in_ok-part.ensures.dtype c.in_ok-part.ensures.same c.in_ok-part.ensures.values c.in_ok-part.ensures.left c.loop-place.invariant

pub returns : goal.returns
returns c =
    let past : length c.args.splits.now ≤ c.loop-place.place = omega (arith, c.loop-place-test.false, c.loop-place.auto.place-end) in
    gathers_all (IsPartOf c.args.whole) c.args.splits.now c.loop-place.place c.loop-place.columns.items c.loop-place.auto.place past c.loop-place.invariant.gathered
