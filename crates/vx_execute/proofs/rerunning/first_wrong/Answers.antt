use Rattle.std.proofs.Common.{◌≡◌, List, None, Some, length, arith}
use Rattle.std.specs.Prelude.{slice_get}
use Rattle.std.proofs.lemmas.List.{length-map}
use Rattle.vx_rows.specs.Reads.{IsAmong}
use Rattle.vx_steps.specs.Kept.{kept_at, kept_data}
use Rattle.vx_steps.specs.KeptData.{Kept}
use Rattle.vx_steps.specs.Offers.{IsForPlan}
use Rattle.vx_chunks.specs.Outcomes.{data_of}
use Rattle.vx_workers.specs.Certified.{nodes_in}
use Rattle.vx_workers.proofs.Certifying.{certifies_none}
use Rattle.vx_workers.proofs.CertifyingEach.{certifies_next, data_got, node_among, tested_all, tested_wrong, testing_next, testing_none}
use Rattle.vx_execute.proofs.rerunning.first_wrong.Goals as goal
use Rattle.vx_base.proofs.Got.{each_got}

pub loop-place-init : goal.loop-place-init
loop-place-init g c =
    let borrowed : List Kept = data_of c.args.borrowed.now in
    let right : List Kept = data_of c.args.right.now.items in
    testing_none c.args.plans.now borrowed right (g.S.SegmentSource.state c.args.source.now) (certifies_none c.args.plans.now (λ n. IsAmong n (nodes_in borrowed)) right (g.S.SegmentSource.state c.args.source.now))

pub certify-requires-clause-known : goal.certify-requires-clause-known
certify-requires-clause-known g c =
    let one : Kept = kept_data c.index-borrowed-place.result in
    let at : slice_get (data_of c.args.borrowed.now) c.loop-place.place ≡ Some one = data_got c.args.borrowed.now c.loop-place.place c.index-borrowed-place.result c.loop-place-test.true c.index-borrowed-place.is in
    (each_got (IsForPlan c.args.plans.now.table) (data_of c.args.borrowed.now) c.loop-place.place one at c.requires.fit).known

pub returns-in-Err : goal.returns-in-Err
returns-in-Err g c =
    let borrowed : List Kept = data_of c.args.borrowed.now in
    let one : Kept = kept_data c.index-borrowed-place.result in
    let at : slice_get borrowed c.loop-place.place ≡ Some one = data_got c.args.borrowed.now c.loop-place.place c.index-borrowed-place.result c.loop-place-test.true c.index-borrowed-place.is in
    record {
      certifies = certifies_next c.args.plans.now (λ n. IsAmong n (nodes_in borrowed)) one.node (data_of c.args.right.now.items) (data_of c.loop-place.right.items) (data_of c.certify.new.right.items) (Some c.in-Err.error) (g.S.SegmentSource.state c.args.source.now) (g.S.SegmentSource.state c.loop-place.source) (g.S.SegmentSource.state c.certify.new.source)
          (node_among borrowed c.loop-place.place one at) c.loop-place.invariant.certifies (c.in-Err.ensures {u = tt}).certifies;
      tested = tt;
    }

pub returns-then-not-is_right : goal.returns-then-not-is_right
returns-then-not-is_right g c =
    let borrowed : List Kept = data_of c.args.borrowed.now in
    let right : List Kept = data_of c.certify.new.right.items in
    let one : Kept = kept_data c.index-borrowed-place.result in
    let at : slice_get borrowed c.loop-place.place ≡ Some one = data_got c.args.borrowed.now c.loop-place.place c.index-borrowed-place.result c.loop-place-test.true c.index-borrowed-place.is in
    let not : kept_at right one.node ≡ Some one.column → ⊥ = rw c.deref.ensures.value at c.if-not-is_right.ensures in
    record {
      certifies = certifies_next c.args.plans.now (λ n. IsAmong n (nodes_in borrowed)) one.node (data_of c.args.right.now.items) (data_of c.loop-place.right.items) right None (g.S.SegmentSource.state c.args.source.now) (g.S.SegmentSource.state c.loop-place.source) (g.S.SegmentSource.state c.certify.new.source)
          (node_among borrowed c.loop-place.place one at) c.loop-place.invariant.certifies (c.in-Ok.ensures {u = tt}).certifies;
      tested = tested_wrong borrowed right c.loop-place.place one at ((c.in-Ok.ensures {u = tt}).there) not;
    }

pub loop-place-preserved : goal.loop-place-preserved
loop-place-preserved g c =
    let borrowed : List Kept = data_of c.args.borrowed.now in
    let right : List Kept = data_of c.certify.new.right.items in
    let one : Kept = kept_data c.index-borrowed-place.result in
    let at : slice_get borrowed c.loop-place.place ≡ Some one = data_got c.args.borrowed.now c.loop-place.place c.index-borrowed-place.result c.loop-place-test.true c.index-borrowed-place.is in
    let is : kept_at right one.node ≡ Some one.column = rw c.deref.ensures.value at c.if-not-is_right.ensures in
    testing_next c.args.plans.now borrowed (data_of c.args.right.now.items) (data_of c.loop-place.right.items) right c.loop-place.place one (g.S.SegmentSource.state c.args.source.now) (g.S.SegmentSource.state c.loop-place.source) (g.S.SegmentSource.state c.certify.new.source) at c.loop-place.invariant (c.in-Ok.ensures {u = tt}).certifies is

pub returns : goal.returns
returns g c =
    let borrowed : List Kept = data_of c.args.borrowed.now in
    let long = length-map c.args.borrowed.now kept_data in
    let all : length borrowed ≡ c.loop-place.place = omega (arith, long) in
    record {
      certifies = c.loop-place.invariant.certifies;
      tested = tested_all borrowed (data_of c.loop-place.right.items) c.loop-place.place all c.loop-place.invariant.right;
    }
