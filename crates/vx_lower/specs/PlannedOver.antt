-- What planning an expression over a plan of a table does to the table.
use Rattle.std.specs.Prelude.{◌≡◌, ℕ, ◌+◌, ◌≤◌, ◌⊎◌, if◌then◌else◌, List, [], ◌++◌, length}
use Rattle.vx_base.specs.Data.{DataType}
use Rattle.vx_expr.specs.Bound.{Bound, IsBoundTo}
use Rattle.vx_expr.specs.Mentions.{uses_root}
use Rattle.vx_expr.specs.Terms.{Term}
use Rattle.vx_plan.specs.declared.errors.PlanError.{PlanError}
use Rattle.vx_plan.specs.declared.errors.PlanError.TheVariants.{BadPlan, Memory}
use Rattle.vx_plan.specs.Alike.{SameHead}
use Rattle.vx_plan.specs.Kinds.{HasKind, IsRowIdx}
use Rattle.vx_plan.specs.Nodes.{Node}
use Rattle.vx_plan.specs.Plans.{Plan, plan_head, plan_at}
use Rattle.vx_plan.specs.PlanRows.{plan_derivation, plan_value, plan_reads}
use Rattle.vx_plan.specs.Rules.{node_at}
use Rattle.vx_plan.specs.Tables.{IsGoodTable}
use Rattle.vx_rows.specs.Derivations.{Leaves}
use Rattle.vx_lower.specs.RowIndex.{row_index_plan, row_index_plan_from, meaning_over}

-- The table holds all that it held before, and perhaps more behind it.
pub record HoldsAll (old new : List Node) : Type 0 where
  pub more : List Node
  pub appended : new ≡ old ++ more
  pub good : IsGoodTable new

-- The plan of the number is the last of at most three that came behind those that the table held: the plan of the
-- expression over the child. It has that plan's head but for the number, and each of its rows is derived as there. What
-- numbers rows among the new ones numbers the child's.
pub record IsPlannedOver (old new : List Node) (a : Bound) (child number : ℕ) : Type 0 where
  pub kept : HoldsAll old new
  pub few : length new ≤ length old + 3
  pub last : number + 1 ≡ length new
  pub plan_is : plan_at new number ≡ row_index_plan_from (length old) a (plan_at old child)
  pub numbers : (n : ℕ) → HasKind IsRowIdx new n → HasKind IsRowIdx old n ⊎ ((node_at new n).rows ≡ (node_at old child).rows)
  pub head : SameHead (plan_head (plan_at new number)) (plan_head (row_index_plan a (plan_at old child)))
  pub derived : (offset row : ℕ) → plan_derivation offset (plan_at new number) row ≡ plan_derivation offset (row_index_plan a (plan_at old child)) row

-- The plan is worth at each row what the expression means at the child's row and at the row's number, which is a
-- fault where the root is used and the child's row is one.
abbrev pub IsWorthOver : Term → Plan → Plan → Type 0
IsWorthOver e child p = (leaves : Leaves) (offset row : ℕ) → plan_value leaves offset p row ≡ meaning_over leaves offset e child row

-- It reads what the child reads there, and nothing where the root isn't used.
abbrev pub ReadsOver : Term → Plan → Plan → Type 0
ReadsOver e child p = (offset row : ℕ) → plan_reads offset p row ≡ (if uses_root e then plan_reads offset child row else [])

-- Rule 3 is refused where the expression isn't bound to the dtype, and no other rule; else memory was wanting.
abbrev pub RefusedOver : Bound → DataType → PlanError → Type 0
RefusedOver a t (BadPlan rule) = (rule ≡ 3) × (IsBoundTo a t → ⊥)
RefusedOver a t Memory = IsBoundTo a t
