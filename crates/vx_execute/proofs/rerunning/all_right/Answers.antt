use Rattle.std.proofs.Common.{◌≡◌, List, [], None, Some, get_or, length, ap, subst, arith}
use Rattle.std.specs.Prelude.{slice_get}
use Rattle.std.proofs.lemmas.Option.{slice_get-get_or}
use Rattle.vx_plan.specs.declared.children.PlanRef.{PlanRef}
use Rattle.vx_plan.specs.Refs.{number_of}
use Rattle.vx_steps.specs.KeptData.{Kept}
use Rattle.vx_steps.specs.declared.kept.KeptValue.{KeptValue}
use Rattle.vx_drive.specs.declared.errors.ScanError.TheVariants.{Memory}
use Rattle.vx_chunks.specs.KeptValues.{Gives}
use Rattle.vx_chunks.specs.Outcomes.{data_of, ChunkAsks}
use Rattle.vx_workers.proofs.Certifying.{certifies_lacking, certifies_none, certifies_then}
use Rattle.vx_workers.proofs.CertifyingEach.{asked_got, certifies_next, given_all, giving_next, giving_none, known_got}
use Rattle.vx_execute.proofs.rerunning.all_right.Goals as goal

pub returns-in_default : goal.returns-in_default
returns-in_default g c =
    record { certifies = certifies_lacking c.args.plans.now (ChunkAsks c.args.plans.now [] c.args.chosen.now) (data_of c.args.right.now.items) (g.S.SegmentSource.state c.args.source.now); given = tt }

pub loop-plan-init : goal.loop-plan-init
loop-plan-init g c =
    let right : List Kept = data_of c.args.right.now.items in
    giving_none c.args.plans.now c.args.chosen.now c.deref-plan-items.result.now right (data_of c.new-given.result.items) (g.S.SegmentSource.state c.args.source.now) (ap data_of c.new-given.ensures.items)
    (certifies_none c.args.plans.now (ChunkAsks c.args.plans.now [] c.args.chosen.now) right (g.S.SegmentSource.state c.args.source.now))

pub certify-requires-clause-known : goal.certify-requires-clause-known
certify-requires-clause-known g c =
    let asked : List PlanRef = c.deref-plan-items.result.now in
    let plan : PlanRef = get_or asked c.loop-plan.plan-index (record { 0 = 0 }) in
    let at : slice_get asked c.loop-plan.plan-index ≡ Some plan = slice_get-get_or asked c.loop-plan.plan-index (record { 0 = 0 }) c.loop-plan-test.true in
    known_got c.args.plans.now.table asked c.in-Ok.asked.items c.loop-plan.plan-index plan at c.deref-plan-items.ensures.value (c.in-Ok.ensures {u = tt}).known

pub returns-in-Err : goal.returns-in-Err
returns-in-Err g c =
    let asked : List PlanRef = c.deref-plan-items.result.now in
    let plan : PlanRef = get_or asked c.loop-plan.plan-index (record { 0 = 0 }) in
    let at : slice_get asked c.loop-plan.plan-index ≡ Some plan = slice_get-get_or asked c.loop-plan.plan-index (record { 0 = 0 }) c.loop-plan-test.true in
    let asks : ChunkAsks c.args.plans.now [] c.args.chosen.now (number_of plan) = asked_got c.args.plans.now c.args.chosen.now asked c.in-Ok.asked.items c.loop-plan.plan-index plan at c.deref-plan-items.ensures.value (c.in-Ok.ensures {u = tt}).asked in
    record {
      certifies = certifies_next c.args.plans.now (ChunkAsks c.args.plans.now [] c.args.chosen.now) (number_of plan) (data_of c.args.right.now.items) (data_of c.loop-plan.right.items) (data_of c.certify.new.right.items) (Some c.in-Err.error)
          (g.S.SegmentSource.state c.args.source.now) (g.S.SegmentSource.state c.loop-plan.source) (g.S.SegmentSource.state c.certify.new.source) asks c.loop-plan.invariant.certifies (c.in-Err.ensures {u = tt}).certifies;
      given = tt;
    }

pub returns-in-Err-give : goal.returns-in-Err-give
returns-in-Err-give g c =
    let asked : List PlanRef = c.deref-plan-items.result.now in
    let plan : PlanRef = get_or asked c.loop-plan.plan-index (record { 0 = 0 }) in
    let at : slice_get asked c.loop-plan.plan-index ≡ Some plan = slice_get-get_or asked c.loop-plan.plan-index (record { 0 = 0 }) c.loop-plan-test.true in
    let asks : ChunkAsks c.args.plans.now [] c.args.chosen.now (number_of plan) = asked_got c.args.plans.now c.args.chosen.now asked c.in-Ok.asked.items c.loop-plan.plan-index plan at c.deref-plan-items.ensures.value (c.in-Ok.ensures {u = tt}).asked in
    record {
      certifies = certifies_then c.args.plans.now (ChunkAsks c.args.plans.now [] c.args.chosen.now) (data_of c.args.right.now.items) (data_of c.certify.new.right.items) (data_of c.certify.new.right.items) (Some Memory)
          (g.S.SegmentSource.state c.args.source.now) (g.S.SegmentSource.state c.certify.new.source) (g.S.SegmentSource.state c.certify.new.source)
          (certifies_next c.args.plans.now (ChunkAsks c.args.plans.now [] c.args.chosen.now) (number_of plan) (data_of c.args.right.now.items) (data_of c.loop-plan.right.items) (data_of c.certify.new.right.items) None
          (g.S.SegmentSource.state c.args.source.now) (g.S.SegmentSource.state c.loop-plan.source) (g.S.SegmentSource.state c.certify.new.source) asks c.loop-plan.invariant.certifies (c.in-Ok-certify.ensures {u = tt}).certifies)
          (certifies_lacking c.args.plans.now (ChunkAsks c.args.plans.now [] c.args.chosen.now) (data_of c.certify.new.right.items) (g.S.SegmentSource.state c.certify.new.source));
      given = tt;
    }

pub loop-plan-preserved : goal.loop-plan-preserved
loop-plan-preserved g c =
    let asked : List PlanRef = c.deref-plan-items.result.now in
    let plan : PlanRef = get_or asked c.loop-plan.plan-index (record { 0 = 0 }) in
    let at : slice_get asked c.loop-plan.plan-index ≡ Some plan = slice_get-get_or asked c.loop-plan.plan-index (record { 0 = 0 }) c.loop-plan-test.true in
    let asks : ChunkAsks c.args.plans.now [] c.args.chosen.now (number_of plan) = asked_got c.args.plans.now c.args.chosen.now asked c.in-Ok.asked.items c.loop-plan.plan-index plan at c.deref-plan-items.ensures.value (c.in-Ok.ensures {u = tt}).asked in
    let told : record { gives : Gives (number_of plan) (data_of c.deref.result.now) (data_of c.loop-plan.given.items) (data_of c.give.new.given.items); unchanged : Unit {0} } = c.in-Ok-give.ensures in
    let gives : Gives (number_of plan) (data_of c.certify.new.right.items) (data_of c.loop-plan.given.items) (data_of c.give.new.given.items) =
    subst (λ (values : List KeptValue). Gives (number_of plan) (data_of values) (data_of c.loop-plan.given.items) (data_of c.give.new.given.items)) c.deref.ensures.value told.gives in
    giving_next c.args.plans.now c.args.chosen.now asked (data_of c.args.right.now.items) (data_of c.loop-plan.right.items) (data_of c.certify.new.right.items) (data_of c.loop-plan.given.items) (data_of c.give.new.given.items) c.loop-plan.plan-index plan
    (g.S.SegmentSource.state c.args.source.now) (g.S.SegmentSource.state c.loop-plan.source) (g.S.SegmentSource.state c.certify.new.source) at asks c.loop-plan.invariant (c.in-Ok-certify.ensures {u = tt}).certifies (c.in-Ok-certify.ensures {u = tt}).there gives

pub returns : goal.returns
returns g c =
    let asked : List PlanRef = c.deref-plan-items.result.now in
    let all : length asked ≡ c.loop-plan.plan-index = omega arith in
    record {
      certifies = c.loop-plan.invariant.certifies;
      given = given_all c.args.plans.now c.args.chosen.now asked c.in-Ok.asked.items (data_of c.args.right.now.items) (data_of c.loop-plan.right.items) (data_of c.loop-plan.given.items) c.loop-plan.plan-index
          (g.S.SegmentSource.state c.args.source.now) (g.S.SegmentSource.state c.loop-plan.source) (c.in-Ok.ensures {u = tt}).asked (c.in-Ok.ensures {u = tt}).known c.deref-plan-items.ensures.value all c.loop-plan.invariant;
    }
