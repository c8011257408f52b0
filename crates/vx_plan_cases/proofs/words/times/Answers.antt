use Rattle.vx_plan_cases.proofs.Known.{one_more_known}
use Rattle.vx_plan_cases.proofs.words.times.Goals as goal

pub loop-time-preserved : goal.loop-time-preserved
loop-time-preserved c = one_more_known c.args.table.now c.loop-time.plans.items _ c.args.plan c.in_ok-push.ensures.items c.requires c.loop-time.invariant
