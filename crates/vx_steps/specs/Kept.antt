-- Which column is kept for a plan.
use Rattle.std.specs.Prelude.{◌≡◌, ℕ, ◌≤◌, ◌==◌, length, take, if◌then◌else◌, List, [], ◌∷◌, Option, Some, None, IsSomeAnd}
use Rattle.std.specs.List.{slice_get}
use Rattle.vx_base.specs.Columns.{ColumnData}
use Rattle.vx_base.specs.Data.{Datum}
use Rattle.vx_plan.specs.Refs.{number_of}
use Rattle.vx_steps.specs.declared.kept.KeptValue.{KeptValue}
use Rattle.vx_steps.specs.declared.places.PlaceTable.{PlaceTable}
use Rattle.vx_steps.specs.KeptData.{Kept}
use Rattle.vx_steps.specs.Places.{place_in}

abbrev pub kept_data : KeptValue → Kept
kept_data kept = record { node = number_of kept.node; column = kept.column }

-- the first column that is kept for the plan of that number
abbrev pub kept_at : List Kept → ℕ → Option ColumnData
kept_at [] n = None
kept_at (kept ∷ more) n = if kept.node == n then Some kept.column else kept_at more n

-- where the first column of a plan is kept
abbrev pub IsPlace : List Kept → ℕ → Option ℕ → Type 0
IsPlace kept n None = kept_at kept n ≡ None
IsPlace kept n (Some place) = IsSomeAnd (slice_get kept place) (λ k. (k.node ≡ n) × (kept_at (take place kept) n ≡ None))

abbrev pub ArePlaces : PlaceTable → List Kept → Type 0
ArePlaces places kept = (n : ℕ) → IsPlace kept n (place_in places n)

-- the places of the first columns, up to so many
pub record AreIndexed (places : PlaceTable) (indexed : ℕ) (kept : List Kept) : Type 0 where
  pub inside : indexed ≤ length kept
  pub placed : ArePlaces places (take indexed kept)

-- Columns stand at the places of others that are for the same plans, and only those of one plan are others.
abbrev pub ReplacesOnly : ℕ → List Kept → List Kept → Type 0
ReplacesOnly node [] [] = Unit {0}
ReplacesOnly node (k ∷ old) (l ∷ new) = (l.node ≡ k.node) × (((k.node ≡ node → ⊥) → l ≡ k) × ReplacesOnly node old new)
ReplacesOnly node old new = ⊥

-- no plan stands twice: two places whose columns are for one plan are the same
abbrev pub AreOfDistinctPlans : List Kept → Type 0
AreOfDistinctPlans kept = (p q : ℕ) (k l : Kept) → slice_get kept p ≡ Some k → slice_get kept q ≡ Some l → k.node ≡ l.node → p ≡ q

-- the whole values that are kept, by the number of the plan
abbrev pub values_of : Option ColumnData → Option (List Datum)
values_of None = None
values_of (Some column) = Some column.values

abbrev pub whole_of : List Kept → ℕ → Option (List Datum)
whole_of kept n = values_of (kept_at kept n)

-- a column is kept for the plan
abbrev pub IsKept : List Kept → ℕ → Type 0
IsKept kept n = (column : ColumnData) × (kept_at kept n ≡ Some column)
