-- The number of a plan.
use Rattle.std.specs.Prelude.{ℕ, List, [], ◌∷◌, map}
use Rattle.vx_plan.specs.declared.children.ChildPlans.{ChildPlans}
use Rattle.vx_plan.specs.declared.children.ChildPlans.TheVariants.{One, Many}
use Rattle.vx_plan.specs.declared.children.PlanRef.{PlanRef}

abbrev pub number_of : PlanRef → ℕ
number_of plan = plan.0

-- the numbers of children, as they are kept
abbrev pub child_numbers : ChildPlans → List ℕ
child_numbers (One plan) = number_of plan ∷ []
child_numbers (Many plans) = map number_of plans.items
