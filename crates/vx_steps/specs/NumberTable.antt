-- Which number a table has for a plan.
use Rattle.std.specs.Prelude.{◌≡◌, ℕ, ◌+◌, ◌-◌, ◌<◌, ◌≤◌, ◌==◌, if◌then◌else◌, length, nat_lt}
use Rattle.std.specs.List.{slice_index_or}
use Rattle.vx_steps.specs.declared.number_table.NumberTable.{NumberTable}

-- the number of the plan, 0 where none was put
unfoldable pub number_in : NumberTable → ℕ → ℕ
number_in table plan = if nat_lt plan table.first then 0 else slice_index_or table.numbers.items (plan - table.first) 0

-- The number of the plan has a place in the table.
pub record IsReached (table : NumberTable) (plan : ℕ) : Type 0 where
  pub from : table.first ≤ plan
  pub to : plan < table.first + length table.numbers.items

-- each plan has the number that it had
abbrev pub KeepsAll : NumberTable → NumberTable → Type 0
KeepsAll old new = (n : ℕ) → number_in new n ≡ number_in old n

-- each plan that was reached is reached
abbrev pub KeepsReach : NumberTable → NumberTable → Type 0
KeepsReach old new = (n : ℕ) → IsReached old n → IsReached new n

-- the plan has this number, and every other the one that it had
abbrev pub SetsNumber : ℕ → ℕ → NumberTable → NumberTable → Type 0
SetsNumber plan number old new = (n : ℕ) → number_in new n ≡ (if plan == n then number else number_in old n)
