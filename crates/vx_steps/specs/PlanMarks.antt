-- Which plans a table marks.
use Rattle.std.specs.Prelude.{◌≡◌, ℕ, ◌==◌, if◌then◌else◌, Bool, true, List, Some}
use Rattle.vx_base.specs.Columns.{ColumnData}
use Rattle.vx_steps.specs.declared.plan_marks.PlanMarks.{PlanMarks}
use Rattle.vx_steps.specs.Kept.{kept_at}
use Rattle.vx_steps.specs.KeptData.{Kept}
use Rattle.vx_steps.specs.NumberTable.{number_in, IsReached, KeepsReach}

-- the plan of that number is marked
unfoldable pub is_marked : PlanMarks → ℕ → Bool
is_marked table n = number_in table.numbers n == 1

-- Each plan is marked where it was, and there is no less room.
pub record KeepsMarks (old new : PlanMarks) : Type 0 where
  pub same : (n : ℕ) → is_marked new n ≡ is_marked old n
  pub wide : KeepsReach old.numbers new.numbers

-- The plan is marked, each other one where it was, and there is no less room.
pub record Marks (plan : ℕ) (old new : PlanMarks) : Type 0 where
  pub marked : (n : ℕ) → is_marked new n ≡ (if plan == n then true else is_marked old n)
  pub wide : KeepsReach old.numbers new.numbers

-- there is room for the marks of all plans of which a column is kept
abbrev pub HasRoom : PlanMarks → List Kept → Type 0
HasRoom table kept = (n : ℕ) (column : ColumnData) → kept_at kept n ≡ Some column → IsReached table.numbers n
