use Rattle.vx_plan_cases.proofs.Known.{one_more_known}
use Rattle.vx_plan_cases.proofs.words.plans_from.Goals as goal

pub loop-place-preserved : goal.loop-place-preserved
loop-place-preserved c = one_more_known c.args.table.now c.loop-place.plans.items _ c.in_ok-plan.plan c.in_ok-push.ensures.items c.in_ok-plan.ensures c.loop-place.invariant
