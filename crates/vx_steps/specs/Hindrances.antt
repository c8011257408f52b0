-- What keeps rows of a plan from having a column, whatever bytes come.
use Rattle.std.specs.Prelude.{◌≡◌, ℕ, ◌+◌, ◌<◌, ◌≤◌, Bool, List, Option, Some, None}
use Rattle.std.specs.List.{slice_get}
use Rattle.vx_plan.specs.Nodes.{Node}
use Rattle.vx_plan.specs.Plans.{list_plan, scan_plan, plan_at}
use Rattle.vx_steps.specs.declared.hindrances.Hindrance.{Hindrance}
use Rattle.vx_steps.specs.declared.hindrances.Hindrance.TheVariants as hindrances
use Rattle.vx_steps.specs.Visits.{Test, Visits}

-- the list of that number
abbrev pub IsListIn : Hindrance → ℕ → Type 0
IsListIn (hindrances.List list) n = n ≡ list
IsListIn (hindrances.Segment segment) n = ⊥

-- the segment, which has no place among so many
abbrev pub IsUnplaced : ℕ → Hindrance → ℕ → Type 0
IsUnplaced places (hindrances.List list) n = ⊥
IsUnplaced places (hindrances.Segment segment) n = (n ≡ segment) × (places ≤ n)

-- a row of the list, or a leaf over the segment
abbrev pub IsHindrance : ℕ → Hindrance → Test
IsHindrance places x handed (list_plan head elements offsets validity) row = IsListIn x head.number
IsHindrance places x handed (scan_plan head segment coding) row = IsUnplaced places x segment
IsHindrance places x handed p row = ⊥

-- it hinders one of so many rows of the plan, counted from the start on
abbrev pub AreHindered : ℕ → List Node → ℕ → ℕ → ℕ → Hindrance → Type 0
AreHindered places nodes n start count x = (place : ℕ) × (place < count) × Visits (IsHindrance places x) None (plan_at nodes n) (start + place)

-- the rows from the first one up to the end are all selected, or none of them is
abbrev pub IsRun : List Bool → ℕ → ℕ → Type 0
IsRun bits first end = (row : ℕ) → first ≤ row → row < end → slice_get bits row ≡ slice_get bits first

-- one that is so, or none where none is
abbrev pub IsOne : {X : Type 0} → (X → Type 0) → Option X → Type 0
IsOne {X} P None = (x : X) → P x → ⊥
IsOne P (Some x) = P x
