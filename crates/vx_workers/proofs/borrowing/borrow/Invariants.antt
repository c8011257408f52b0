use Rattle.std.proofs.Common.{map}
use Rattle.vx_plan.specs.Refs.{number_of}
use Rattle.vx_chunks.specs.Outcomes.{data_of}
use Rattle.vx_workers.specs.Borrowing.{AreOfPlans}
use Rattle.vx_workers.proofs.borrowing.borrow.Given as goal

-- what was borrowed so far is of these plans
abbrev pub invariant-loop-plan : goal.invariant-loop-plan
invariant-loop-plan g l = AreOfPlans l.table (map number_of l.asked) (data_of l.borrowed.given.items)
