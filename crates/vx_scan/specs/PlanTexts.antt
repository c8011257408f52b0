-- The text of the plan of a projection.
use Rattle.std.specs.Prelude.{◌≡◌, ℕ, ◌<◌, Bool, true, false, List, [], length}
use Rattle.vx_expr.specs.Bound.{Bound}
use Rattle.vx_expr.specs.Mentions.{is_root}
use Rattle.vx_layout.specs.Nodes.{Node}
use Rattle.vx_layout.specs.Trees.{subtree}
use Rattle.vx_lower.specs.Lowered.{lowered}
use Rattle.vx_lower.specs.Numbered.{numbered}
use Rattle.vx_lower.specs.PlanText.{all_headers, plan_text}
use Rattle.vx_lower.specs.Projected.{Projection, kept_of}
use Rattle.vx_lower.specs.RowIndex.{row_index_plan_from}
use Rattle.vx_plan.specs.Nodes.{Node as PlanNode}
use Rattle.vx_plan.specs.Plans.{Plan, plan_at}
use Rattle.vx_plan.specs.Tables.{IsGoodTable}

-- the plan of the projection's tree, of which no more is lowered than the expression keeps, numbered from 0 on
abbrev pub held_tree : Projection → Plan
held_tree p = numbered 0 (lowered p.root (kept_of p))

-- over it the plan of the expression, whose own plans have the numbers behind; the tree's plan for the root alone
abbrev pub IsProjectionPlanBy : Bool → Projection → Plan → Type 0
IsProjectionPlanBy true p q = q ≡ held_tree p
IsProjectionPlanBy false p q = (n : ℕ) × (q ≡ row_index_plan_from n p.expression (held_tree p))

abbrev pub IsProjectionPlan : Projection → Plan → Type 0
IsProjectionPlan p q = IsProjectionPlanBy (is_root p.expression.term) p q

-- The text is that of the projection's plan, with the summary of each plan: a line for each, its children below it.
pub record IsPlanText (p : Projection) (text : List ℕ) : Type 0 where
  pub table : List PlanNode
  pub number : ℕ
  pub good : IsGoodTable table
  pub known : number < length table
  pub plan : IsProjectionPlan p (plan_at table number)
  pub text_is : text ≡ plan_text (all_headers true []) table number

-- an expression over the root of a layout, with rows that are counted from 0 on
abbrev pub projection_of : List Node → Bound → Projection
projection_of nodes expression = record { root = subtree nodes 0; expression = expression; offset = 0 }
