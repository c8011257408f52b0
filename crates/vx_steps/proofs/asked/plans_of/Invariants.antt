use Rattle.std.proofs.Common.{map, take}
use Rattle.std.specs.BTreeSet.{contains}
use Rattle.std.specs.Ordering.{nat_cmp}
use Rattle.vx_plan.specs.Refs.{number_of}
use Rattle.vx_steps.proofs.EachOnce.{AreListed}
use Rattle.vx_steps.proofs.asked.plans_of.Given as goal

abbrev pub invariant-loop-number : goal.invariant-loop-number
invariant-loop-number l = AreListed (take l.number-index l.numbers) (map number_of l.plans.items) (contains nat_cmp l.known)
