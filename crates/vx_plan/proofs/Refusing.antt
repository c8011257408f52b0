-- Why a concat of too many rows is refused.
use Rattle.std.proofs.Common.{◌≡◌, ℕ, ◌<◌, ◌≤◌, ◌^◌, List, refl, arith}
use Rattle.std.specs.List.{sum_by}
use Rattle.vx_base.specs.Data.{DataType}
use Rattle.std.specs.List.{All}
use Rattle.vx_plan.specs.declared.rules.PlanRule.{PlanRule}
use Rattle.vx_plan.specs.declared.rules.PlanRule.TheVariants.{ChildTypes, ChildRows, BoundExpression, NoRowIndex, FieldCount, UnsignedCodes, LeafType, FittingZones}
use Rattle.vx_plan.proofs.Broken.{numbered}
use Rattle.vx_plan.specs.Nodes.{Node}
use Rattle.vx_plan.specs.Rules.{concat_node, nodes_at, rows_of, rule_number, Asks, IsFirstBroken}

before_rows : (nodes : List Node) (t : DataType) (children : List ℕ) → All (λ child. child.dtype ≡ t) (nodes_at nodes children) → (other : PlanRule) → rule_number other < 2 → Asks other (concat_node nodes t children) (nodes_at nodes children)
before_rows nodes t children fit ChildTypes lt = fit
before_rows nodes t children fit ChildRows lt = absurd (omega arith)
before_rows nodes t children fit BoundExpression lt = tt
before_rows nodes t children fit NoRowIndex lt = tt
before_rows nodes t children fit FieldCount lt = tt
before_rows nodes t children fit UnsignedCodes lt = tt
before_rows nodes t children fit LeafType lt = tt
before_rows nodes t children fit FittingZones lt = tt

pub refused_for_rows : (nodes : List Node) (t : DataType) (children : List ℕ) → All (λ child. child.dtype ≡ t) (nodes_at nodes children) → 2 ^ 64 ≤ sum_by rows_of (nodes_at nodes children) → IsFirstBroken (concat_node nodes t children) (nodes_at nodes children) 2
refused_for_rows nodes t children fit many = record {
  rule = ChildRows;
  number_is = refl;
  broken = λ few. omega arith;
  earlier = before_rows nodes t children fit;
}

pub refused_for_types : (nodes : List Node) (t : DataType) (children : List ℕ) → (All (λ child. child.dtype ≡ t) (nodes_at nodes children) → ⊥) → IsFirstBroken (concat_node nodes t children) (nodes_at nodes children) 1
refused_for_types nodes t children unfit = record {
  rule = ChildTypes;
  number_is = refl;
  broken = unfit;
  earlier = λ other lt. absurd (let of = numbered other in omega (arith, of.first));
}
