-- Which columns of leaves are in memory.
use Rattle.std.specs.Prelude.{◌≡◌, ℕ, ◌==◌, ◌⊎◌, if◌then◌else◌, Bool, true, false, List, [], ◌∷◌, ◌++◌, Some, None}
use Rattle.vx_base.specs.Columns.{ColumnData}
use Rattle.vx_plan.specs.Refs.{number_of}
use Rattle.vx_steps.specs.declared.leaf_columns.SeenColumn.{SeenColumn}
use Rattle.vx_steps.specs.declared.places.PlaceTable.{PlaceTable}
use Rattle.vx_steps.specs.declared.plan_marks.PlanMarks.{PlanMarks}
use Rattle.vx_steps.specs.Kept.{kept_at, IsKept}
use Rattle.vx_steps.specs.KeptData.{Kept}
use Rattle.vx_steps.specs.LeavesData.{LeavesData}
use Rattle.vx_steps.specs.NumberTable.{KeepsReach}
use Rattle.vx_steps.specs.Places.{place_in}
use Rattle.vx_steps.specs.PlanMarks.{is_marked, HasRoom}

-- the column as it was seen
abbrev pub seen_data : SeenColumn → Kept
seen_data seen = record { node = number_of seen.node; column = seen.column.value }

-- the columns of plans that are not marked
abbrev pub unmarked : PlanMarks → List Kept → List Kept
unmarked gone [] = []
unmarked gone (k ∷ kept) = if is_marked gone k.node then unmarked gone kept else k ∷ unmarked gone kept

-- The columns of plans that are not marked are stored, in their order. For each other one some column of its plan is stored,
-- or none.
abbrev pub AreStored : PlanMarks → List Kept → List Kept → Type 0
AreStored gone [] [] = Unit {0}
AreStored gone [] (s ∷ stored) = ⊥
AreStored gone (k ∷ all) [] = (is_marked gone k.node ≡ true) × AreStored gone all []
AreStored gone (k ∷ all) (s ∷ stored) = ((s.node ≡ k.node) × ((is_marked gone k.node ≡ false → s ≡ k) × AreStored gone all stored)) ⊎ ((is_marked gone k.node ≡ true) × AreStored gone all (s ∷ stored))

-- What is stored of the columns of leaves, of which those of marked plans are gone.
pub record StoresLeaves (gone : PlanMarks) (all kept : List Kept) (ready : Bool) : Type 0 where
  pub stored : AreStored gone all kept
  pub seen : (n : ℕ) → kept_at all n ≡ None → is_marked gone n ≡ false
  pub room : ready ≡ true → HasRoom gone kept

-- ---- what the calls do

-- one more column is there
pub record AddsColumn (node : ℕ) (column : ColumnData) (old new : LeavesData) : Type 0 where
  pub all : new.all ≡ old.all ++ record { node = node; column = column } ∷ []
  pub here : new.here ≡ old.here ++ record { node = node; column = column } ∷ []
  pub ready : new.ready ≡ old.ready

-- No column of the plan is here, and of each other plan the one that was.
pub record Forgets (node : ℕ) (old new : LeavesData) : Type 0 where
  pub all : new.all ≡ old.all
  pub here : (n : ℕ) → kept_at new.here n ≡ (if node == n then None else kept_at old.here n)
  pub ready : new.ready ≡ old.ready

-- Of exactly those plans that have a place in the index no column is here any more.
pub record ForgetsApart (apart : PlaceTable) (old new : LeavesData) : Type 0 where
  pub all : new.all ≡ old.all
  pub ready : new.ready ≡ old.ready
  pub stays : (n : ℕ) → place_in apart n ≡ None → kept_at new.here n ≡ kept_at old.here n
  pub gone : (n place : ℕ) → place_in apart n ≡ Some place → kept_at new.here n ≡ None

-- Of the plans of the columns those are marked that have a place in the index, besides those that were, and there is no less
-- room.
pub record MarksApart (apart : PlaceTable) (kept : List Kept) (old new : PlanMarks) : Type 0 where
  pub only : (n : ℕ) → is_marked new n ≡ true → (is_marked old n ≡ true) ⊎ (IsKept kept n × ((place : ℕ) × (place_in apart n ≡ Some place)))
  pub more : (n : ℕ) → is_marked old n ≡ true → is_marked new n ≡ true
  pub all : (n place : ℕ) → IsKept kept n → place_in apart n ≡ Some place → is_marked new n ≡ true
  pub wide : KeepsReach old.numbers new.numbers

-- what is here is among all
abbrev pub AreAmongAll : LeavesData → Type 0
AreAmongAll leaves = (n : ℕ) (column : ColumnData) → kept_at leaves.here n ≡ Some column → kept_at leaves.all n ≡ Some column

-- The columns of plans of which one is here stand, in their order. For each other one some column of its plan does, or none.
abbrev pub StandFor : List Kept → List Kept → List Kept → Type 0
StandFor here [] [] = Unit {0}
StandFor here [] (s ∷ stored) = ⊥
StandFor here (k ∷ all) [] = (IsKept here k.node → ⊥) × StandFor here all []
StandFor here (k ∷ all) (s ∷ stored) = ((s.node ≡ k.node) × ((IsKept here k.node → s ≡ k) × StandFor here all stored)) ⊎ ((IsKept here k.node → ⊥) × StandFor here all (s ∷ stored))
