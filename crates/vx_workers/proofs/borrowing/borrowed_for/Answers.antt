use Rattle.std.proofs.Common.{◌<◌, List, length, map, subst, sym}
use Rattle.std.specs.List.{AllByRecursion}
use Rattle.vx_plan.specs.declared.children.PlanRef.{PlanRef}
use Rattle.vx_plan.specs.Refs.{number_of}
use Rattle.vx_chunks.specs.Outcomes.{data_of}
use Rattle.vx_workers.specs.Borrowing.{AreOfPlans}
use Rattle.vx_workers.proofs.Borrowed.{all_known, are_borrowed}
use Rattle.vx_workers.proofs.borrowing.borrowed_for.Goals as goal

pub borrow-requires : goal.borrow-requires
borrow-requires g c = record { known = subst (λ (asked : List PlanRef). AllByRecursion (λ (plan : PlanRef). number_of plan < length c.args.plans.now.table) asked) (sym c.as_slice.ensures.value) (all_known c.args.plans.now.table c.in_ok-asked.asked.items c.in_ok-asked.ensures.known) }

pub returns-clause-borrowed : goal.returns-clause-borrowed
returns-clause-borrowed g c =
    are_borrowed c.args.plans.now c.args.chosen.now c.in_ok-asked.asked.items (data_of c.in_ok-borrowed.borrowed.given.items) c.in_ok-asked.ensures.asked
    (subst (λ (asked : List PlanRef). AreOfPlans c.args.plans.now.table (map number_of asked) (data_of c.in_ok-borrowed.borrowed.given.items)) c.as_slice.ensures.value c.in_ok-borrowed.ensures)
