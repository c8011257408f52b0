use Rattle.std.proofs.Common.{◌≡◌, List, Some, get_or, length, arith}
use Rattle.std.specs.Prelude.{slice_get}
use Rattle.std.proofs.lemmas.Option.{slice_get-get_or}
use Rattle.vx_plan.specs.declared.children.PlanRef.{PlanRef}
use Rattle.vx_plan.specs.Refs.{number_of}
use Rattle.vx_chunks.specs.KeptValues.{Gives}
use Rattle.vx_chunks.specs.Outcomes.{data_of}
use Rattle.vx_chunks.proofs.OwnValues.{own_all, owning_next}
use Rattle.vx_chunks.proofs.chunks.made_for.Goals as goal

pub loop-plan-preserved : goal.loop-plan-preserved
loop-plan-preserved c =
    let asked : List PlanRef = c.deref-plan-items.result.now in
    let plan : PlanRef = get_or asked c.loop-plan.plan-index (record { 0 = 0 }) in
    let at : slice_get asked c.loop-plan.plan-index ≡ Some plan = slice_get-get_or asked c.loop-plan.plan-index (record { 0 = 0 }) c.loop-plan-test.true in
    let told : record { gives : Gives (number_of plan) (data_of c.args.made.now) (data_of c.loop-plan.own.items) (data_of c.give.new.given.items); unchanged : Unit {0} } = c.in_ok-give.ensures in
    owning_next asked (data_of c.args.made.now) (data_of c.loop-plan.own.items) (data_of c.give.new.given.items) c.loop-plan.plan-index plan at c.loop-plan.invariant told.gives

pub returns : goal.returns
returns c =
    let asked : List PlanRef = c.deref-plan-items.result.now in
    let all : length asked ≡ c.loop-plan.plan-index = omega arith in
    own_all c.args.plans.now c.args.chosen.now asked c.in_ok-asked.asked.items (data_of c.args.made.now) (data_of c.loop-plan.own.items) c.loop-plan.plan-index c.in_ok-asked.ensures.asked c.deref-plan-items.ensures.value all c.loop-plan.invariant
