-- Rules by their numbers.
use Rattle.std.proofs.Common.{ℕ, ◌<◌, ◌≤◌, List, arith}
use Rattle.vx_plan.specs.declared.rules.PlanRule.{PlanRule}
use Rattle.vx_plan.specs.declared.rules.PlanRule.TheVariants.{ChildTypes, ChildRows, BoundExpression, NoRowIndex, FieldCount, UnsignedCodes, LeafType, FittingZones}
use Rattle.vx_plan.specs.Nodes.{Node}
use Rattle.vx_plan.specs.Rules.{rule_number, Asks}

pub record IsNumbered (rule : PlanRule) : Type 0 where
  pub first : 1 ≤ rule_number rule
  pub last : rule_number rule ≤ 8

pub numbered : (rule : PlanRule) → IsNumbered rule
numbered ChildTypes = record { first = omega arith; last = omega arith }
numbered ChildRows = record { first = omega arith; last = omega arith }
numbered BoundExpression = record { first = omega arith; last = omega arith }
numbered NoRowIndex = record { first = omega arith; last = omega arith }
numbered FieldCount = record { first = omega arith; last = omega arith }
numbered UnsignedCodes = record { first = omega arith; last = omega arith }
numbered LeafType = record { first = omega arith; last = omega arith }
numbered FittingZones = record { first = omega arith; last = omega arith }

-- the node keeps each rule with a lesser number
abbrev pub KeepsBelow : Node → List Node → ℕ → Type 0
KeepsBelow node below number = (rule : PlanRule) → rule_number rule < number → Asks rule node below
