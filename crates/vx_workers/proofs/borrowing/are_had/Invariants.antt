use Rattle.std.proofs.Common.{map, take}
use Rattle.vx_plan.specs.Refs.{number_of}
use Rattle.vx_chunks.specs.Outcomes.{data_of}
use Rattle.vx_workers.specs.Borrowing.{AreHad}
use Rattle.vx_workers.proofs.borrowing.are_had.Given as goal

-- each of the plans so far has whole values
abbrev pub invariant-loop-plan : goal.invariant-loop-plan
invariant-loop-plan l = AreHad (map number_of (take l.plan-index l.asked)) (data_of l.given) (data_of l.made)
