use Rattle.std.proofs.Common.{map}
use Rattle.vx_plan.specs.Refs.{number_of}
use Rattle.vx_plan.specs.Tables.{AreIn}
use Rattle.vx_plan_cases.proofs.words.times.Given as goal

abbrev pub invariant-loop-time : goal.invariant-loop-time
invariant-loop-time l = AreIn l.table (map number_of l.plans.items)
