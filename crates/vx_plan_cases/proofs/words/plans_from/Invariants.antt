use Rattle.std.proofs.Common.{map}
use Rattle.vx_plan.specs.Refs.{number_of}
use Rattle.vx_plan.specs.Tables.{AreIn}
use Rattle.vx_plan_cases.proofs.words.plans_from.Given as goal

abbrev pub invariant-loop-place : goal.invariant-loop-place
invariant-loop-place l = AreIn l.table (map number_of l.plans.items)
